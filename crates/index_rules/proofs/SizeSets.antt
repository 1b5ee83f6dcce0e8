-- The sets of sizes: what stands at each of their nine places.
use Prim.Native.Nat.{ℕ, ◌+◌, ◌<◌}
use mathlib.Core.Path.{◌≡◌, sym, ap, ap₂, ◌∙◌}
use mathlib.Core.Logic.{⊎_elim}
use mathlib.Core.Bool.{Bool, false}
use mathlib.Core.List.{List, [], ◌∷◌, ◌++◌}
use native.Mathlib.Nat.{eq-or-lt_of_le, le_of_suc-le-suc}
use native.Mathlib.Omega.{arith}
use lib.ListN.{length, get_or, length-append, get_or-append}
use lib.Seq.{get_or_at, ext_get_or}
use Rattle.basics.specs.Lists.{each}
use Rattle.basics.specs.Sets.{set_of}
use Rattle.basics.proofs.Each.{each_length, each_same, each_at}
use Rattle.basics.proofs.Sets.{nobody, set_ext}
use Rattle.index_rules.specs.Index.{size_sets}

module _ (f : ℕ → ℕ → Bool) where
  pub nine : length (size_sets f) ≡ 9
  nine = length-append (each 8 (λ p. set_of 64 (f p))) (set_of 8 (λ p. f p 64) ∷ []) ∙ ap (λ (k : ℕ). k + 1) (each_length 8 (λ p. set_of 64 (f p)))

  pub set_of_port : (p : ℕ) → p < 8 → get_or (size_sets f) p 0 ≡ set_of 64 (f p)
  set_of_port p l =
      let at : ℕ → ℕ = λ p. set_of 64 (f p) in
      get_or-append (each 8 at) (set_of 8 (λ p. f p 64) ∷ []) 0 p (omega (arith, l, each_length 8 at)) ∙ each_at 8 at 0 p l

  pub set_of_whole : get_or (size_sets f) 8 0 ≡ set_of 8 (λ p. f p 64)
  set_of_whole = get_or_at (each 8 (λ p. set_of 64 (f p))) (set_of 8 (λ p. f p 64)) [] 0 8 (each_length 8 (λ p. set_of 64 (f p)))

  -- These places are all that there is.
  pub nine_sets : (xs : List ℕ) → length xs ≡ 9 → ((p : ℕ) → p < 8 → get_or xs p 0 ≡ set_of 64 (f p)) → get_or xs 8 0 ≡ set_of 8 (λ p. f p 64) → xs ≡ size_sets f
  nine_sets xs n small whole = ext_get_or 0 xs (size_sets f) (n ∙ sym nine) same
    where
      same : (i : ℕ) → i < length xs → get_or xs i 0 ≡ get_or (size_sets f) i 0
      same i l =
          ⊎_elim
          (λ e. ap (λ (k : ℕ). get_or xs k 0) e ∙ whole ∙ sym set_of_whole ∙ ap (λ (k : ℕ). get_or (size_sets f) k 0) (sym e))
          (λ k. small i k ∙ sym (set_of_port i k))
          (eq-or-lt_of_le (let b : i < 9 = omega (arith, l, n) in le_of_suc-le-suc b))

pub sizes_same : (f g : ℕ → ℕ → Bool) → ((p k : ℕ) → f p k ≡ g p k) → size_sets f ≡ size_sets g
sizes_same f g h =
    ap₂ (λ (front : List ℕ) (x : ℕ). front ++ (x ∷ []))
    (each_same 8 (λ p. set_of 64 (f p)) (λ p. set_of 64 (g p)) (λ p _. set_ext 64 (f p) (g p) (λ k _. h p k)))
    (set_ext 8 (λ p. f p 64) (λ p. g p 64) (λ p _. h p 64))

-- Nine empty sets, where no size occurs.
pub nothing_occurs : each 9 (λ _. 0) ≡ size_sets (λ _ _. false)
nothing_occurs =
    let zeros : ℕ → ℕ = λ _. 0 in
    nine_sets (λ _ _. false) (each 9 zeros) (each_length 9 zeros)
    (λ p l. each_at 9 zeros 0 p (omega (arith, l)) ∙ sym (nobody 64))
    (each_at 9 zeros 0 8 (omega arith) ∙ sym (nobody 8))
