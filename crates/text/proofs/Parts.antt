-- A text from a byte of it on, and its parts: one after another they are the text.
use Prim.Native.Nat.{ℕ, zero, suc, ◌+◌, ◌*◌, ◌≤◌, ◌<◌}
use mathlib.Core.Path.{◌≡◌, refl, sym, ap, ◌∙◌}
use mathlib.Core.Bool.{Bool, true, false, cond}
use mathlib.Core.List.{List, [], ◌++◌, append-nil}
use native.Mathlib.Omega.{arith}
use borrow.Author.Tests.{ltb-true}
use lib.Dec.{ltb}
use lib.ListN.{length, take, drop, length-take, length-drop, take-append-drop, drop_of_length-le}
use lib.Seq.{take_all, drop-drop}
use Rattle.text.specs.declared.Page.{Page}
use Rattle.text.specs.Text.{filled_at, end_at, filled, end_of, wrote, laid_over}
use Rattle.text.specs.Parts.{part_size, part_from, parts_from}
use Rattle.text.proofs.Lengths.{filled_front, end_front}

-- ---- from a byte on

-- What a page from a buffer's start on is after a text.
module _ (page : Page) (text : List ℕ) where
  pub wrote_at : page.at ≡ 0 → (wrote page text).at ≡ end_at 0 (drop page.skip text) page.text.now
  unfolding wrote end_of
  wrote_at z = ap (λ (n : ℕ). end_at n (drop page.skip text) page.text.now) z

  pub wrote_text : page.at ≡ 0 → (wrote page text).text.now ≡ filled_at 0 (drop page.skip text) page.text.now
  unfolding wrote filled
  wrote_text z = ap (λ (n : ℕ). filled_at n (drop page.skip text) page.text.now) z

  pub wrote_name : (wrote page text).text.ghost_name ≡ page.text.ghost_name
  unfolding wrote
  wrote_name = refl

-- What a function that makes a page and puts a text on it needs.
pub ruleset page_ends = (wrote_at, wrote_text, wrote_name)

-- ---- a part

-- What the buffer holds of the text from a byte on.
pub part_put : (skip : ℕ) (text out : List ℕ) {end : ℕ} {out' : List ℕ} → length out ≡ part_size
    → (end ≡ end_at 0 (drop skip text) out) × (out' ≡ filled_at 0 (drop skip text) out)
    → (end ≡ length (part_from skip text)) × (out' ≡ laid_over (part_from skip text) out)
unfolding part_from
part_put skip text out room p = (p.0 ∙ end_front part_size (drop skip text) out room, p.1 ∙ filled_front part_size (drop skip text) out room)

-- A full part of a text of at most so many bytes ends within them.
pub part_within : (most skip : ℕ) (text : List ℕ) {end : ℕ} → length text ≤ most → end ≡ length (part_from skip text) → part_size ≤ end → skip + part_size ≤ most
unfolding part_from
part_within most skip text few e h = omega (arith, few, e, h, length-take part_size (drop skip text), length-drop skip text)

-- ---- the parts

parts_rest : (n skip : ℕ) (text : List ℕ) → length text < skip + n * part_size → parts_from n skip text ≡ drop skip text
unfolding parts_from part_from
parts_rest zero skip text h = sym (drop_of_length-le text {i = skip} (omega (arith, h)))
parts_rest (suc n) skip text h = go (ltb (length part) part_size) refl (parts_rest n (skip + part_size) text (omega (arith, h)))
  where
    part : List ℕ
    part = take part_size (drop skip text)

    go : (t : Bool) → ltb (length part) part_size ≡ t → parts_from n (skip + part_size) text ≡ drop (skip + part_size) text
        → part ++ cond t [] (parts_from n (skip + part_size) text) ≡ drop skip text
    go true e r =
        let short = ltb-true (length part) part_size e in
        append-nil part ∙ take_all part_size (drop skip text) (omega (arith, short, length-take part_size (drop skip text)))
    go false e r =
        ap (λ (l : List ℕ). part ++ l) (r ∙ sym (drop-drop part_size skip text)) ∙ take-append-drop part_size (drop skip text)

-- The parts up to the first that is not full are the whole of a text of fewer bytes than n parts hold.
pub parts_all : (n : ℕ) (text : List ℕ) → length text < n * part_size → parts_from n 0 text ≡ text
parts_all n text h = parts_rest n 0 text (omega (arith, h))
