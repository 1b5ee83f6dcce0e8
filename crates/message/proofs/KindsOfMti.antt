-- M4: exactly which MTIs are of each kind; every other one is "other", 04C6 and 0546 among them.
use Prim.Native.Nat.{ℕ}
use mathlib.Core.Path.{◌≡◌, refl, sym, ap, ◌∙◌}
use mathlib.Core.Bool.{Bool, true, false, cond, not, beq, ◌&&◌, ◌||◌, true≢false}
use mathlib.Core.List.{List, [], ◌∷◌}
use borrow.Author.Tests.{eqb-true}
use lib.Dec.{eqb}
use Rattle.basics.proofs.Bools.{both}
use Rattle.message.specs.declared.Kind.{Kind}
use Rattle.message.specs.declared.Kind.TheVariants.{InitializationComplete, EventReport, IdentifyConsumer, IdentifyProducer, ConsumerIdentified, ProducerIdentified, ConsumerRangeIdentified, ProducerRangeIdentified, IdentifyEvents, LearnEvent, Other}
use Rattle.message.specs.declared.Meaning.{Meaning}
use Rattle.message.specs.Mti.{same_kind, Row, table, other, lookup, meaning_of, kind_of, mtis_of, one_of, known}

-- ---- a question of the table and a list of MTIs that answer alike

abbrev alike : (Meaning → Bool) → (ℕ → Bool) → List Row → Bool
alike f g [] = true
alike f g (r ∷ rs) = beq (f r.means) (g r.mti) && alike f g rs

beq_same : (a b : Bool) → beq a b ≡ true → a ≡ b
beq_same true true e = refl
beq_same true false e = sym e
beq_same false true e = e
beq_same false false e = refl

-- They answer alike on every row, and where there is no row.
alike_everywhere : (f : Meaning → Bool) (g : ℕ → Bool) (rs : List Row) (m : ℕ) → alike f g rs ≡ true
    → (known rs m ≡ false → f other ≡ g m) → f (lookup rs m) ≡ g m
alike_everywhere f g [] m h miss = miss refl
alike_everywhere f g (r ∷ rs) m h miss =
    let parts = both (beq (f r.means) (g r.mti)) (alike f g rs) h in
    go (eqb m r.mti) refl parts.0 (alike_everywhere f g rs m parts.1)
  where
    go : (t : Bool) → eqb m r.mti ≡ t → beq (f r.means) (g r.mti) ≡ true
        → ((known rs m ≡ false → f other ≡ g m) → f (lookup rs m) ≡ g m) → f (cond t r.means (lookup rs m)) ≡ g m
    go true e here later = beq_same (f r.means) (g r.mti) here ∙ ap g (sym (eqb-true m r.mti e))
    go false e here later = later (λ k. miss (ap (λ (t : Bool). t || known rs m) e ∙ k))

-- MTIs that are all in the table.
abbrev all_known : List ℕ → List Row → Bool
all_known [] rs = true
all_known (k ∷ ks) rs = known rs k && all_known ks rs

unknown_not_one : (ks : List ℕ) (rs : List Row) (m : ℕ) → all_known ks rs ≡ true → known rs m ≡ false → one_of ks m ≡ false
unknown_not_one [] rs m h u = refl
unknown_not_one (k ∷ ks) rs m h u =
    let parts = both (known rs k) (all_known ks rs) h in
    go (eqb m k) refl parts.0 (unknown_not_one ks rs m parts.1 u)
  where
    go : (t : Bool) → eqb m k ≡ t → known rs k ≡ true → one_of ks m ≡ false → (t || one_of ks m) ≡ false
    go true e here rest = absurd (true≢false (sym here ∙ ap (known rs) (sym (eqb-true m k e)) ∙ u))
    go false e here rest = rest

-- ---- the kinds

exactly : (k : Kind) → same_kind k Other ≡ false → (m : ℕ) → alike (λ (x : Meaning). same_kind k x.kind) (one_of (mtis_of k)) table ≡ true
    → all_known (mtis_of k) table ≡ true → same_kind k (kind_of m) ≡ one_of (mtis_of k) m
unfolding meaning_of
exactly k n m a b =
    alike_everywhere (λ (x : Meaning). same_kind k x.kind) (one_of (mtis_of k)) table m a (λ u. n ∙ sym (unknown_not_one (mtis_of k) table m b u))

-- A kind that is not "other" is that of its MTIs and of no other.
pub kind_exactly : (k : Kind) → same_kind k Other ≡ false → (m : ℕ) → same_kind k (kind_of m) ≡ one_of (mtis_of k) m
unfolding meaning_of mtis_of
kind_exactly InitializationComplete n m = exactly InitializationComplete n m refl refl
kind_exactly EventReport n m = exactly EventReport n m refl refl
kind_exactly IdentifyConsumer n m = exactly IdentifyConsumer n m refl refl
kind_exactly IdentifyProducer n m = exactly IdentifyProducer n m refl refl
kind_exactly ConsumerIdentified n m = exactly ConsumerIdentified n m refl refl
kind_exactly ProducerIdentified n m = exactly ProducerIdentified n m refl refl
kind_exactly ConsumerRangeIdentified n m = exactly ConsumerRangeIdentified n m refl refl
kind_exactly ProducerRangeIdentified n m = exactly ProducerRangeIdentified n m refl refl
kind_exactly IdentifyEvents n m = exactly IdentifyEvents n m refl refl
kind_exactly LearnEvent n m = exactly LearnEvent n m refl refl
kind_exactly Other n m = absurd (true≢false n)

-- "Other" is what no row of the table has.
pub other_exactly : (m : ℕ) → same_kind Other (kind_of m) ≡ not (known table m)
unfolding meaning_of
other_exactly m = alike_everywhere (λ (x : Meaning). same_kind Other x.kind) (λ n. not (known table n)) table m refl (λ u. ap not (sym u))

-- 04C6 and 0546 are "other".
pub not_identified : (kind_of 0x04C6 ≡ Other) × (kind_of 0x0546 ≡ Other)
unfolding meaning_of
not_identified = (refl, refl)
