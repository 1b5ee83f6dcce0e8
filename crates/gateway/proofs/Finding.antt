-- Where the search ends: the first line of the order that does not stand before a spot has the fields of that spot, or no line has.
use Prim.Native.Nat.{ℕ, ◌+◌, ◌*◌, ◌≤◌, ◌<◌}
use mathlib.Core.Path.{◌≡◌, refl, ap, ap₂, ◌∙◌}
use mathlib.Core.Logic.{⊎_elim}
use mathlib.Core.Bool.{Bool, true, false, ◌&&◌, false≢true}
use mathlib.Core.List.{List}
use native.Mathlib.Nat.{eq-or-lt_of_le, le_refl}
use native.Mathlib.Omega.{arith}
use borrow.Author.Tests.{eqb-true, eq-eqb}
use lib.Dec.{eqb}
use lib.ListN.{get_or}
use Rattle.basics.specs.Sets.{any_below}
use Rattle.basics.proofs.Bools.{both, same_truth}
use Rattle.basics.proofs.Below.{one_passes}
use Rattle.index_rules.specs.Index.{spot}
use Rattle.index_rules.specs.Agreeing.{key, Agrees}
use Rattle.index_rules.proofs.Comparing.{less_or_not}
use Rattle.index_rules.proofs.Passing.{one_found}
use Rattle.index_rules.proofs.Order.{further_on, every_named}
use Rattle.gateway.specs.Indexing.{spot_in, entry_in, placed_in, Split}
use Rattle.gateway.proofs.Keys.{Fields}

-- A line at the spot looked for is not passed over, and the first that is not passed over stands at no later one.
first_there : {spotAt at : ℕ → ℕ} {n x low : ℕ} → n ≤ 256 → Agrees spotAt n at → Split (λ i. key spotAt (at i)) n (x * 256 + 0) low
    → (p : ℕ) → p < n → spotAt p ≡ x → (low < n) × (spotAt (at low) ≡ x)
first_there {spotAt} {at} {n} {x} {low} small a h p l e =
    let w = every_named a p l in
    let there = ap spotAt w.names ∙ e in
    ⊎_elim (λ b. absurd (omega (arith, h.under w.place b, there)))
    (λ b.
    let within : low < n = omega (arith, b, w.there) in (
      within,
      ⊎_elim (λ s. ap (λ (i : ℕ). spotAt (at i)) s ∙ there)
          (λ c. omega (arith, further_on a low w.place c w.there, h.over low (le_refl low) within, a.below low within, w.names, there))
          (eq-or-lt_of_le b),
    ))
    (less_or_not w.place low)

-- A spot is its three fields.
fields_of : (port port' : ℕ) {k start number k' start' number' : ℕ} → Fields k start number → Fields k' start' number' → spot port k start ≡ spot port' k' start'
    → (port ≡ port') × (k ≡ k') × (start ≡ start')
unfolding spot
fields_of port port' here there e = (omega arith, omega arith, omega arith)

pub regrouped : (x y z : Bool) → (x && (y && z)) ≡ ((x && y) && z)
regrouped true y z = refl
regrouped false y z = refl

module _ (n : ℕ) (starts ports sizes order : List ℕ) (port k start : ℕ) (small : n ≤ 256) (a : Agrees (spot_in starts ports sizes) n (entry_in order))
    {low : ℕ} (h : Split (λ i. key (spot_in starts ports sizes) (entry_in order i)) n (spot port k start * 256 + 0) low) where
  abbrev placed : ℕ → Bool
  placed i = (eqb (get_or ports i 0) port && eqb (get_or sizes i 0) k) && eqb (get_or starts i 0) start

  at_spot : (i : ℕ) → placed i ≡ true → spot_in starts ports sizes i ≡ spot port k start
  at_spot i t =
      let s = both (eqb (get_or ports i 0) port && eqb (get_or sizes i 0) k) (eqb (get_or starts i 0) start) t in
      let u = both (eqb (get_or ports i 0) port) (eqb (get_or sizes i 0) k) s.0 in
      ap₂ (λ (x y : ℕ). spot x y (get_or starts i 0)) (eqb-true (get_or ports i 0) port u.0) (eqb-true (get_or sizes i 0) k u.1)
      ∙ ap (spot port k) (eqb-true (get_or starts i 0) start s.1)

  where_found : any_below n placed ≡ true → (low < n) × (spot_in starts ports sizes (entry_in order low) ≡ spot port k start)
  where_found t = let f = one_found n placed t in first_there small a h f.place f.there (at_spot f.place f.passes)

  -- Past the last line.
  pub past_all : n ≤ low → false ≡ placed_in n starts ports sizes port k start
  past_all b = same_truth false (any_below n placed) (λ e. absurd (false≢true e)) (λ t. absurd (omega (arith, (where_found t).0, b)))

  -- At a line: its fields are compared in their order.
  module _ (l : low < n) {number : ℕ} (looked-for : Fields k start number) (here : Fields (get_or sizes (entry_in order low) 0) (get_or starts (entry_in order low) 0) (entry_in order low)) where
    abbrev i : ℕ
    i = entry_in order low

    spot_placed : spot_in starts ports sizes i ≡ spot port k start → placed i ≡ true
    spot_placed e =
        let f = fields_of (get_or ports i 0) port here looked-for e in
        rw (eq-eqb (get_or ports i 0) port f.0, eq-eqb (get_or sizes i 0) k f.1, eq-eqb (get_or starts i 0) start f.2)

    pub landed : placed i ≡ placed_in n starts ports sizes port k start
    landed = same_truth (placed i) (any_below n placed) (one_passes n placed i (a.below low l)) (λ t. spot_placed (where_found t).1)
