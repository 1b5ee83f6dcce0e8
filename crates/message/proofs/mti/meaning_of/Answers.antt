use Prim.Native.Nat.{ℕ}
use mathlib.Core.Path.{◌≡◌, sym, ap, ◌∙◌}
use mathlib.Core.Logic.{⊎_elim, inl, inr}
use borrow.Author.Tests.{ne_eqb}
use Rattle.message.specs.Mti.{meaning_of}
use Rattle.message.proofs.mti.meaning_of.Goals as goal

-- Each arm is a row of the table, and the last is what is in none.
row_of : {k m : ℕ} → m ≡ k → meaning_of k ≡ meaning_of m
row_of e = sym (ap meaning_of e)

pub returns-in-256 : goal.returns-in-256
unfolding meaning_of
returns-in-256 c = c.row.ensures ∙ ⊎_elim row_of row_of c.in-256.is

pub returns-in-1460 : goal.returns-in-1460
unfolding meaning_of
returns-in-1460 c = c.row-in-1460.ensures ∙ row_of c.in-1460.is

pub returns-in-3860 : goal.returns-in-3860
unfolding meaning_of
returns-in-3860 c = c.row-in-3860.ensures ∙ row_of c.in-3860.is

pub returns-in-2292 : goal.returns-in-2292
unfolding meaning_of
returns-in-2292 c = c.row-in-2292.ensures ∙ row_of c.in-2292.is

pub returns-in-2324 : goal.returns-in-2324
unfolding meaning_of
returns-in-2324 c = c.row-in-2324.ensures ∙ row_of c.in-2324.is

pub returns-in-1220 : goal.returns-in-1220
unfolding meaning_of
returns-in-1220 c = c.row-in-1220.ensures ∙ row_of c.in-1220.is

pub returns-in-1221 : goal.returns-in-1221
unfolding meaning_of
returns-in-1221 c = c.row-in-1221.ensures ∙ ⊎_elim row_of row_of c.in-1221.is

pub returns-in-1348 : goal.returns-in-1348
unfolding meaning_of
returns-in-1348 c = c.row-in-1348.ensures ∙ row_of c.in-1348.is

pub returns-in-1349 : goal.returns-in-1349
unfolding meaning_of
returns-in-1349 c = c.row-in-1349.ensures ∙ ⊎_elim row_of row_of c.in-1349.is

pub returns-in-1188 : goal.returns-in-1188
unfolding meaning_of
returns-in-1188 c = c.row-in-1188.ensures ∙ row_of c.in-1188.is

pub returns-in-1316 : goal.returns-in-1316
unfolding meaning_of
returns-in-1316 c = c.row-in-1316.ensures ∙ row_of c.in-1316.is

pub returns-in-2416 : goal.returns-in-2416
unfolding meaning_of
returns-in-2416 c = c.row-in-2416.ensures ∙ ⊎_elim row_of row_of c.in-2416.is

pub returns-in-1428 : goal.returns-in-1428
unfolding meaning_of
returns-in-1428 c = c.row-in-1428.ensures ∙ row_of c.in-1428.is

pub returns-in_default : goal.returns-in_default
unfolding meaning_of
returns-in_default c =
    let m = c.args.mti in
    let r = c.in_default.in_default-own.rest in
    c.row-in_default.ensures
    ∙ rw (
      ne_eqb m 0x0100 (λ e. r.0.0.0.0.0.0.0.0.0.0.0.0.1 (inl e)),
      ne_eqb m 0x0110 (λ e. r.0.0.0.0.0.0.0.0.0.0.0.0.1 (inr e)),
      ne_eqb m 0x05B4 r.0.0.0.0.0.0.0.0.0.0.0.1,
      ne_eqb m 0x0F14 r.0.0.0.0.0.0.0.0.0.0.1,
      ne_eqb m 0x08F4 r.0.0.0.0.0.0.0.0.0.1,
      ne_eqb m 0x0914 r.0.0.0.0.0.0.0.0.1,
      ne_eqb m 0x04C4 r.0.0.0.0.0.0.0.1,
      ne_eqb m 0x04C5 (λ e. r.0.0.0.0.0.0.1 (inl e)),
      ne_eqb m 0x04C7 (λ e. r.0.0.0.0.0.0.1 (inr e)),
      ne_eqb m 0x0544 r.0.0.0.0.0.1,
      ne_eqb m 0x0545 (λ e. r.0.0.0.0.1 (inl e)),
      ne_eqb m 0x0547 (λ e. r.0.0.0.0.1 (inr e)),
      ne_eqb m 0x04A4 r.0.0.0.1,
      ne_eqb m 0x0524 r.0.0.1,
      ne_eqb m 0x0970 (λ e. r.0.1 (inr e)),
      ne_eqb m 0x0968 (λ e. r.0.1 (inl e)),
      ne_eqb m 0x0594 r.1,
    )
