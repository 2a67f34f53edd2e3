-- The line of a configuration, piece by piece.
use Rattle.std.proofs.Common.{◌≡◌, ℕ, List, [], ◌∷◌, ◌++◌, Option, map, sym, ap, ◌∙◌, append_assoc}
use Rattle.std.specs.Prelude.{codes}
use Rattle.std.proofs.lemmas.Grind.{flat_map-append}
use Rattle.hal_model.specs.declared.event.HalEvent.TheVariants.{ConfigureBegin}
use Rattle.hal_model.specs.declared.event.HalStream.{HalStream}
use Rattle.hal_model.specs.Spelling.{behind_spaces, event_line, mode_words, stream_text}

pub configure-line : (mode : Option ℕ) (streams : List HalStream) (before call moded listed line : List ℕ) → call ≡ before ++ codes "configure begin" → moded ≡ call ++ behind_spaces (mode_words mode) → listed ≡ moded ++ behind_spaces (map stream_text streams) → line ≡ listed ++ 10 ∷ []
    → line ≡ before ++ event_line (ConfigureBegin mode streams)
configure-line mode streams o a b c d h1 h2 h3 h4 =
    let X = codes "configure begin" in
    let M = behind_spaces (mode_words mode) in
    let S = behind_spaces (map stream_text streams) in
    let N : List ℕ = 10 ∷ [] in
    rw (h4, h3, h2, h1)
    (append_assoc ((o ++ X) ++ M) S N ∙ append_assoc (o ++ X) M (S ++ N) ∙ append_assoc o X (M ++ (S ++ N))
    ∙ ap (λ t. o ++ (X ++ t)) (sym (append_assoc M S N))
    ∙ ap (λ t. o ++ (X ++ (t ++ N))) (sym (flat_map-append (λ (w : List ℕ). 32 ∷ w) (mode_words mode) (map stream_text streams))))
