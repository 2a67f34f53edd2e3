use Rattle.std.specs.Prelude.{◌==◌, List, count_by, IsTrue}
use Rattle.std.specs.List.{list_all}
use Rattle.cam_types.specs.declared.script.Script.{Script}
use Rattle.trace_model.specs.declared.entry.Entry.{Entry}
use Rattle.trace_model.specs.Complete.{IsComplete}
use Rattle.trace_model.specs.Entry.{takes}
use Rattle.trace_model.specs.Frames.{frames}
use Rattle.trace_model.specs.Laws.{CountsUp, counts_up, ends_in_order, ends_metadata, rises}
use Rattle.trace_model.specs.Legal.{IsLegal}
use Rattle.trace_model.specs.Queue.{submitted}

-- What a user of the contract may rely on: the order of shutters and of metadata in a legal run, and how often each
-- thing comes in a complete one.

-- each shutter has a greater frame and a later time than all before it
abbrev pub ShuttersRise : Script → List Entry → Type 0
ShuttersRise script past = IsLegal script past → IsTrue (rises past)

-- the metadata of frames ends in the order of their numbers, but for frames that failed whole
abbrev pub MetadataEndsInOrder : Script → List Entry → Type 0
MetadataEndsInOrder script past = IsLegal script past → IsTrue (ends_in_order past)

-- the parts of each frame have the numbers 1 to k, each once, and each after those before it
abbrev pub PartsComeInOrder : Script → List Entry → Type 0
PartsComeInOrder script past = IsLegal script past → IsTrue (list_all (λ n. counts_up n past) (frames past))

-- and in a complete run k is 3 exactly where no error says that metadata is missing
abbrev pub PartialsCountUp : Script → List Entry → Type 0
PartialsCountUp script past = IsComplete script past → CountsUp past

-- the metadata of each frame ends once: by its last part, by a result error or by a request error
abbrev pub MetadataEndsOnce : Script → List Entry → Type 0
MetadataEndsOnce script past =
    IsComplete script past → IsTrue (list_all (λ n. count_by (ends_metadata n) past == 1) (frames past))

-- each item of an accepted once or burst is sent or dropped once
abbrev pub ItemsEndOnce : Script → List Entry → Type 0
ItemsEndOnce script past = IsComplete script past →
    IsTrue (list_all (λ w. count_by (takes w.request.0 w.index) past == 1) (submitted script past))
