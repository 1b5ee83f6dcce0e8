-- One more part of a text is written.
use Prim.Native.Nat.{ℕ, ◌+◌, ◌≤◌, ◌<◌, min}
use mathlib.Core.Path.{◌≡◌, sym, ap, ◌∙◌, subst}
use mathlib.Core.List.{List, ◌++◌}
use native.Mathlib.Omega.{arith}
use lib.ListN.{length, take, drop, length-take, length-drop, take-append-drop}
use lib.Seq.{take_all, take-add, take-append_seam}
use Rattle.std.specs.Prelude.{Option}
use Rattle.std.specs.Io.KnownBytes.{Appends}
use Rattle.std.proofs.KnownBytes.{Appends-trans}
use Rattle.text.specs.Text.{laid_over}
use Rattle.text.specs.Parts.{part_size, part_from}

module _ (skip : ℕ) (text buffer : List ℕ) {told end : ℕ} {buffer' : List ℕ}
    (put : (told ≡ length (part_from skip text)) × (buffer' ≡ laid_over (part_from skip text) buffer)) (least : end ≡ min told part_size) where
  part_length : end ≡ length (part_from skip text)
  unfolding part_from
  part_length = omega (arith, put.0, least, length-take part_size (drop skip text))

  shown : take end buffer' ≡ part_from skip text
  unfolding laid_over
  shown = ap (λ (l : List ℕ). take end l) put.1 ∙ ap (λ (n : ℕ). take n (part_from skip text ++ drop (length (part_from skip text)) buffer)) part_length ∙ take-append_seam (part_from skip text) _

  module _ (a b c : Option (List ℕ)) (had : (skip ≤ length text) × Appends a b (take skip text)) (wrote : Appends b c (take end buffer')) where
    joined : Appends a c (take skip text ++ part_from skip text)
    joined = Appends-trans a b c _ _ had.1 (subst (Appends b c) shown wrote)

    -- A part that is not full is the last.
    pub last_part : end < part_size → Appends a c text
    unfolding part_from
    last_part h =
        let rest : take part_size (drop skip text) ≡ drop skip text = take_all part_size (drop skip text) (omega (arith, h, part_length, length-take part_size (drop skip text))) in
        subst (Appends a c) (ap (λ (l : List ℕ). take skip text ++ l) rest ∙ take-append-drop skip text) joined

    pub full_part : part_size ≤ end → (skip + part_size ≤ length text) × Appends a c (take (skip + part_size) text)
    unfolding part_from
    full_part h = (
      omega (arith, h, had.0, part_length, length-take part_size (drop skip text), length-drop skip text),
      subst (Appends a c) (sym (take-add skip part_size text)) joined,
    )
