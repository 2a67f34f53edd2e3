-- The words of commands as they are written. (our own choice)
use Rattle.std.specs.Prelude.{ℕ, List, [], ◌∷◌, Option, codes, bytes_eq, find}
use Rattle.cam_types.specs.declared.script.Command.{Command}
use Rattle.cam_types.specs.declared.script.Command.TheVariants as command
use Rattle.cam_types.specs.declared.script.Word.{Word}
use Rattle.cam_types.specs.declared.script.Word.TheVariants.{Configure, Once, Burst, Repeat, Stop, Wait, Await, Flush, Close, Disconnect}

abbrev pub word_text : Word → List ℕ
word_text Configure = codes "configure"
word_text Once = codes "once"
word_text Burst = codes "burst"
word_text Repeat = codes "repeat"
word_text Stop = codes "stop"
word_text Wait = codes "wait"
word_text Await = codes "await"
word_text Flush = codes "flush"
word_text Close = codes "close"
word_text Disconnect = codes "disconnect"

abbrev pub command_words : List Word
command_words = Configure ∷ Once ∷ Burst ∷ Repeat ∷ Stop ∷ Wait ∷ Await ∷ Flush ∷ Close ∷ Disconnect ∷ []

-- the command that has this word
unfoldable pub command_word : List ℕ → Option Word
command_word text = find (λ w. bytes_eq text (word_text w)) command_words

-- the word of a command
abbrev pub word_of : Command → Word
word_of (command.Configure specs) = Configure
word_of (command.Once item) = Once
word_of (command.Burst items) = Burst
word_of (command.Repeat items) = Repeat
word_of command.Stop = Stop
word_of command.Wait = Wait
word_of (command.Await k) = Await
word_of command.Flush = Flush
word_of command.Close = Close
word_of command.Disconnect = Disconnect
