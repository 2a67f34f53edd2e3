-- The parts of the text make up the text of the whole.
use Rattle.std.proofs.Common.{◌≡◌, ℕ, ◌+◌, ◌<◌, true, List, [], ◌∷◌, ◌++◌, append_assoc, refl, sym, ap, ◌∙◌, codes, get_or, length, map, take, Option, Some, None}
use Rattle.std.proofs.lemmas.List.{flat_map_more, map_more, take_more}
use Rattle.std.specs.List.{flat_map}
use Rattle.serde_json.specs.Data.{Data}
use Rattle.serde_json.specs.Written.{compact_text, items_text}
use Rattle.serde_json.proofs.OnLiterals.{serde_json_on_literals}
use Rattle.timeline_model.specs.declared.chart.Chart.{Chart}
use Rattle.timeline_model.specs.declared.chart.Group.{Group}
use Rattle.timeline_model.specs.declared.chart.Kind.{Kind}
use Rattle.timeline_model.specs.declared.chart.Lane.{Lane}
use Rattle.timeline_model.specs.declared.chart.Piece.{Piece}
use Rattle.timeline_json.specs.Events.{verdict_data}
use Rattle.timeline_json.specs.Timelines.{behind_commas, camera_data, camera_text, events_text, fault_events, fault_group_text, fault_of, group_events, group_text, head_text, items_of, json_text, level_events, more_events, names_text, note_line, piece_events, piece_text, rest_text, stream_name, thread_names, told_of, trace_data, unfinished_event, verdict_text}

-- events in one list behind those in another
both : (ds es : List Data) → behind_commas (ds ++ es) ≡ behind_commas ds ++ behind_commas es
both [] es = refl
both (d ∷ ds) es = ap (λ (l : List ℕ). (44 ∷ compact_text d) ++ l) (both ds es) ∙ sym (append_assoc (44 ∷ compact_text d) (behind_commas ds) (behind_commas es))

items : (ds : List Data) → items_text true (items_of ds) ≡ behind_commas ds ++ 93 ∷ []
items [] = refl
items (d ∷ ds) = ap (λ (l : List ℕ). (44 ∷ compact_text d) ++ l) (items ds) ∙ sym (append_assoc (44 ∷ compact_text d) (behind_commas ds) (93 ∷ []))

pieces : (place : ℕ) (told : List ℕ) (ps : List Piece) → behind_commas (flat_map (piece_events place told) ps) ≡ flat_map (piece_text place told) ps
pieces place told [] = refl
pieces place told (p ∷ ps) =
    both (piece_events place told p) (flat_map (piece_events place told) ps)
    ∙ ap (λ (l : List ℕ). piece_text place told p ++ l) (pieces place told ps)

one : (kind : Kind) (g : Group) → behind_commas (group_events kind g) ≡ group_text kind g
unfolding group_events
one kind g =
    both (flat_map (piece_events g.place (told_of g)) g.pieces) (fault_events kind g.place (told_of g) g.broken ++ level_events g)
    ∙ (ap (λ (l : List ℕ). l ++ behind_commas (fault_events kind g.place (told_of g) g.broken ++ level_events g)) (pieces g.place (told_of g) g.pieces)
    ∙ ap (λ (l : List ℕ). flat_map (piece_text g.place (told_of g)) g.pieces ++ l) (both (fault_events kind g.place (told_of g) g.broken) (level_events g)))

groups : (kind : Kind) (gs : List Group) → behind_commas (flat_map (group_events kind) gs) ≡ flat_map (group_text kind) gs
groups kind [] = refl
groups kind (g ∷ gs) =
    both (group_events kind g) (flat_map (group_events kind) gs)
    ∙ (ap (λ (l : List ℕ). l ++ behind_commas (flat_map (group_events kind) gs)) (one kind g)
    ∙ ap (λ (l : List ℕ). group_text kind g ++ l) (groups kind gs))

bars : (last : ℕ) (ps : List Piece) → behind_commas (map (unfinished_event last) ps) ≡ flat_map (λ p. 44 ∷ compact_text (unfinished_event last p)) ps
bars last [] = refl
bars last (p ∷ ps) = ap (λ (l : List ℕ). (44 ∷ compact_text (unfinished_event last p)) ++ l) (bars last ps)

streams : (lanes : List Lane) → behind_commas (map stream_name lanes) ≡ flat_map (λ lane. 44 ∷ compact_text (stream_name lane)) lanes
streams [] = refl
streams (lane ∷ lanes) = ap (λ (l : List ℕ). (44 ∷ compact_text (stream_name lane)) ++ l) (streams lanes)

fault : (kind : Kind) (f : Option Group) → behind_commas (fault_of kind f) ≡ fault_group_text kind f
fault kind (Some g) = one kind g
fault kind None = refl

-- a list in five parts, with what ends it
five : (a b c d e z : List ℕ) → (a ++ (b ++ (c ++ (d ++ e)))) ++ z ≡ (a ++ b) ++ ((c ++ (d ++ e)) ++ z)
five a b c d e z = simp append_assoc

more : (c : Chart) → behind_commas (more_events c) ++ 93 ∷ (125 ∷ []) ≡ rest_text c
unfolding more_events names_text events_text rest_text
more c =
    let first = both (thread_names c.kind) (map stream_name c.lanes ++ (flat_map (group_events c.kind) c.groups ++ (map (unfinished_event c.count) c.unfinished ++ fault_of c.kind c.fault))) in
    let second = both (map stream_name c.lanes) (flat_map (group_events c.kind) c.groups ++ (map (unfinished_event c.count) c.unfinished ++ fault_of c.kind c.fault)) in
    let third = both (flat_map (group_events c.kind) c.groups) (map (unfinished_event c.count) c.unfinished ++ fault_of c.kind c.fault) in
    let fourth = both (map (unfinished_event c.count) c.unfinished) (fault_of c.kind c.fault) in
    rw (first, second, third, fourth, streams c.lanes, groups c.kind c.groups, bars c.count c.unfinished, fault c.kind c.fault)
    (five (behind_commas (thread_names c.kind)) (flat_map (λ lane. 44 ∷ compact_text (stream_name lane)) c.lanes) (flat_map (group_text c.kind) c.groups) (flat_map (λ p. 44 ∷ compact_text (unfinished_event c.count p)) c.unfinished) (fault_group_text c.kind c.fault) (93 ∷ (125 ∷ [])))

joined : (a v b c i r : List ℕ) → (c ++ i) ++ 125 ∷ [] ≡ c ++ r → a ++ (v ++ (b ++ ((c ++ i) ++ 125 ∷ []))) ≡ ((a ++ v) ++ (b ++ c)) ++ r
joined a v b c i r h = rw h (simp append_assoc)

pub whole : (c : Chart) → json_text c ≡ head_text c.notes ++ rest_text c
unfolding json_text trace_data verdict_text camera_text serde_json_on_literals
whole c =
    let events = more_events c in
    let ending : (items_text true (items_of events)) ++ 125 ∷ [] ≡ rest_text c = ap (λ (l : List ℕ). l ++ 125 ∷ []) (items events) ∙ (append_assoc (behind_commas events) (93 ∷ []) (125 ∷ []) ∙ more c) in
    let behind = append_assoc (compact_text camera_data) (items_text true (items_of events)) (125 ∷ []) ∙ ap (λ (l : List ℕ). compact_text camera_data ++ l) ending in
    joined (codes "{\"otherData\":") (compact_text (verdict_data (flat_map note_line c.notes))) (codes ",\"traceEvents\":[") (compact_text camera_data) (items_text true (items_of events)) (rest_text c) behind

-- one item more is written
pub one-more : {X : Type 0} (text_of : X → List ℕ) (text : List ℕ) (xs : List X) (i : ℕ) (d : X) → i < length xs → (text ++ flat_map text_of (take i xs)) ++ text_of (get_or xs i d) ≡ text ++ flat_map text_of (take (i + 1) xs)
one-more text_of text xs i d less =
    flat_map_more text_of text (take i xs) (get_or xs i d) ∙ ap (λ ys. text ++ flat_map text_of ys) (sym (take_more xs i d less))

-- and one that stands for another
pub one-more-of : {X Y : Type 0} (text_of : Y → List ℕ) (f : X → Y) (text : List ℕ) (xs : List X) (i : ℕ) (d : X) → i < length xs → (text ++ flat_map text_of (map f (take i xs))) ++ text_of (f (get_or xs i d)) ≡ text ++ flat_map text_of (map f (take (i + 1) xs))
one-more-of text_of f text xs i d less =
    flat_map_more text_of text (map f (take i xs)) (f (get_or xs i d)) ∙ ap (λ ys. text ++ flat_map text_of ys) (sym (map_more f xs i d less))
