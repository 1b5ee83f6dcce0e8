-- Something that one step starts and another ends, over histories that grow at the end.
use Prim.Native.Nat.{ℕ}
use mathlib.Core.Path.{◌≡◌, refl, sym, ap, ◌∙◌, subst}
use mathlib.Core.Logic.{◌⊎◌, inl, inr}
use mathlib.Core.List.{List, [], ◌∷◌, ◌++◌, append-nil, append_assoc}
use native.Mathlib.Omega.{arith}
use Rattle.basics.specs.Since.{Never, Since}
use Rattle.basics.specs.Since.Never.{nothing, nor}

-- ---- lists that grow at the end

module _ {A : Type 0} where
  pub by_end : (P : List A → Type 0) → P [] → ((h : List A) (s : A) → P h → P (h ++ (s ∷ []))) → (h : List A) → P h
  by_end P base step h = go h [] base
    where
      go : (rest before : List A) → P before → P (before ++ rest)
      go [] before p = subst P (sym (append-nil before)) p
      go (s ∷ rest) before p = subst P (append_assoc before (s ∷ []) rest) (go rest (before ++ (s ∷ [])) (step before s p))

-- Where a list that has grown by one is split.
pub record AtEnd {A : Type 0} (h before later : List A) (s by : A) : Type 0 where
  pub whole : before ≡ h
  pub last : by ≡ s
  pub none : later ≡ []

pub record Within {A : Type 0} (h before later : List A) (s by : A) : Type 0 where
  pub rest : List A
  pub earlier : h ≡ before ++ (by ∷ rest)
  pub grown : later ≡ rest ++ (s ∷ [])

module _ {A : Type 0} where
  pub split_end : (h : List A) (s : A) (before : List A) (by : A) (later : List A) → h ++ (s ∷ []) ≡ before ++ (by ∷ later)
      → AtEnd h before later s by ⊎ Within h before later s by
  split_end [] s [] by later e = inl (record { whole = refl; last = cc; none = cc })
  split_end (x ∷ h) s [] by later e = inr (record { rest = h; earlier = cc; grown = cc })
  split_end [] s (y ∷ []) by later e = let z : ◌≡◌ {A = ℕ} 0 1 = cc in absurd (omega arith)
  split_end [] s (y ∷ (y' ∷ before)) by later e = let z : ◌≡◌ {A = ℕ} 0 1 = cc in absurd (omega arith)
  split_end (x ∷ h) s (y ∷ before) by later e = go (split_end h s before by later cc)
    where
      same : x ≡ y
      same = cc

      go : AtEnd h before later s by ⊎ Within h before later s by → AtEnd (x ∷ h) (y ∷ before) later s by ⊎ Within (x ∷ h) (y ∷ before) later s by
      go (inl a) = let w = a.whole in inl (record { whole = cc; last = a.last; none = a.none })
      go (inr w) = let f = w.earlier in inr (record { rest = w.rest; earlier = cc; grown = w.grown })

-- ---- nothing ends it

module _ {A : Type 0} {ends : A → Type 0} where
  pub never_end : {h : List A} (s : A) → Never ends h → (ends s → ⊥) → Never ends (h ++ (s ∷ []))
  never_end s nothing n = nor n nothing
  never_end s (nor m r) n = nor m (never_end s r n)

  pub never_front : (h : List A) (s : A) → Never ends (h ++ (s ∷ [])) → Never ends h
  never_front [] s r = nothing
  never_front (x ∷ h) s (nor m r) = nor m (never_front h s r)

  pub never_last : (h : List A) (s : A) → Never ends (h ++ (s ∷ [])) → ends s → ⊥
  never_last [] s (nor m r) = m
  never_last (x ∷ h) s (nor m r) = never_last h s r

-- ---- since

module _ {A : Type 0} (starts : List A → A → Type 0) (ends : A → Type 0) where
  pub since_none : Since starts ends [] → ⊥
  since_none s = go s.before s.split
    where
      go : (before : List A) → [] ≡ before ++ (s.by ∷ s.later) → ⊥
      go [] e = let z : ◌≡◌ {A = ℕ} 0 1 = cc in omega arith
      go (x ∷ before) e = let z : ◌≡◌ {A = ℕ} 0 1 = cc in omega arith

  pub since_new : (h : List A) (s : A) → starts h s → Since starts ends (h ++ (s ∷ []))
  since_new h s p = record { before = h; by = s; later = []; split = refl; started = p; lasting = nothing }

  pub since_old : (h : List A) (s : A) → Since starts ends h → (ends s → ⊥) → Since starts ends (h ++ (s ∷ []))
  since_old h s p n = record {
    before = p.before;
    by = p.by;
    later = p.later ++ (s ∷ []);
    split = ap (λ (l : List A). l ++ (s ∷ [])) p.split ∙ append_assoc p.before (p.by ∷ p.later) (s ∷ []);
    started = p.started;
    lasting = never_end s p.lasting n;
  }

  -- It started with the last step, or it had started before and the last step does not end it.
  pub since_end : (h : List A) (s : A) → Since starts ends (h ++ (s ∷ [])) → starts h s ⊎ (Since starts ends h × (ends s → ⊥))
  since_end h s p = go (split_end h s p.before p.by p.later p.split)
    where
      go : AtEnd h p.before p.later s p.by ⊎ Within h p.before p.later s p.by → starts h s ⊎ (Since starts ends h × (ends s → ⊥))
      go (inl a) = inl (subst (λ (x : A). starts h x) a.last (subst (λ (l : List A). starts l p.by) a.whole p.started))
      go (inr w) =
          let r : Never ends (w.rest ++ (s ∷ [])) = subst (Never ends) w.grown p.lasting in
          inr (
            record {
              before = p.before;
              by = p.by;
              later = w.rest;
              split = w.earlier;
              started = p.started;
              lasting = never_front w.rest s r;
            },
            never_last w.rest s r,
          )
