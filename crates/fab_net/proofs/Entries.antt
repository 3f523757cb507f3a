-- The entries of a pinlist, one on.
use Rattle.std.proofs.Common.{◌≡◌, ℕ, ◌+◌, ◌-◌, ◌<◌, true, false, List, [], ◌∷◌, length, get_or, drop, refl, ap, ◌∙◌, arith}
use Rattle.std.proofs.lemmas.List.{drop_more, length-drop}
use Rattle.fab_text.specs.Lines.{TextLine}
use Rattle.fab_text.specs.declared.spans.Span.{Span}
use Rattle.fab_arch.specs.declared.architecture.PinKind.{PinKind}
use Rattle.fab_net.specs.declared.netlist_types.BlockKind.{BlockKind}
use Rattle.fab_net.specs.Text.{entries, entries_in, pins_at, is_open, drives_at, no_span}

pub entries_len : (ws : List (List ℕ)) (ss : List Span) → length ws ≡ length ss → length (entries ws ss) ≡ length ws
entries_len [] ss h = refl
entries_len (w ∷ ws) [] h = absurd (omega arith)
entries_len (w ∷ ws) (s ∷ ss) h = let e = entries_len ws ss (omega arith) in omega arith

pub entries_more : (ws : List (List ℕ)) (ss : List Span) (i : ℕ) → i < length ws → i < length ss
    → entries (drop i ws) (drop i ss) ≡ record { name = get_or ws i []; span = get_or ss i no_span } ∷ entries (drop (i + 1) ws) (drop (i + 1) ss)
entries_more ws ss i lt lt' = rw (drop_more ws i [] lt, drop_more ss i no_span lt') refl

pub pins_open : (arch : List PinKind) (kind : BlockKind) (b i : ℕ) (ws : List (List ℕ)) (ss : List Span) → i < length ws → i < length ss → is_open (get_or ws i []) ≡ true
    → pins_at arch kind b i (entries (drop i ws) (drop i ss)) ≡ pins_at arch kind b (i + 1) (entries (drop (i + 1) ws) (drop (i + 1) ss))
pins_open arch kind b i ws ss lt lt' h = ap (pins_at arch kind b i) (entries_more ws ss i lt lt') ∙ rw h refl

pub pins_closed : (arch : List PinKind) (kind : BlockKind) (b i : ℕ) (ws : List (List ℕ)) (ss : List Span) → i < length ws → i < length ss → is_open (get_or ws i []) ≡ false
    → pins_at arch kind b i (entries (drop i ws) (drop i ss)) ≡ record { block = b; pin = i; name = get_or ws i []; span = get_or ss i no_span; drives = drives_at arch kind i } ∷ pins_at arch kind b (i + 1) (entries (drop (i + 1) ws) (drop (i + 1) ss))
pins_closed arch kind b i ws ss lt lt' h = ap (pins_at arch kind b i) (entries_more ws ss i lt lt') ∙ rw h refl

pub entries_in_len : (l : TextLine) → length l.words ≡ length l.spans → length (entries_in l) ≡ length l.words - 1
entries_in_len l h = entries_len (drop 1 l.words) (drop 1 l.spans) (omega (arith, length-drop 1 l.words, length-drop 1 l.spans)) ∙ length-drop 1 l.words
