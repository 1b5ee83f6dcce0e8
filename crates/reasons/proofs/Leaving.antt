-- The state that some entries have left, one entry later, and the last entry, which is asked.
use Rattle.std.proofs.Common.{◌≡◌, ℕ, zero, suc, ◌+◌, Some, None, List, [], ◌∷◌, ◌++◌, refl, sym, ap, ◌∙◌, add-one}
use Rattle.range.specs.Range.{house}
use Rattle.basics.specs.Lists.{each}
use Rattle.gateway_rules.specs.State.{Gate, start_of}
use Rattle.gateway_rules.specs.History.{Entry as Heard, after}
use Rattle.gateway_rules.specs.Step.{step}
use Rattle.replay.specs.declared.entries.Entry.{Entry}
use Rattle.replay.specs.declared.entries.Entries.{Entries}
use Rattle.replay.specs.Entries.{GivesEntry}
use Rattle.replay.specs.Files.{entry_count, port_in, body_in}
use Rattle.replay.specs.Lines.{ports}
use Rattle.reasons.specs.Lines.{left_after, answer_of, last_of}

-- It is what the history of those entries leaves, so that what is known of histories is known of the text.
abbrev entry_in : List ℕ → ℕ → Heard
entry_in s i = record { port = port_in s i; bytes = body_in s i }

after_end : (g : Gate) (h : List Heard) (e : Heard) → after g (h ++ (e ∷ [])) ≡ (step (after g h) e.port e.bytes).next
after_end g [] e = refl
after_end g (x ∷ h) e = after_end (step g x.port x.bytes).next h e

pub left_history : (s : List ℕ) (n : ℕ) → left_after n s ≡ after (start_of ports house) (each n (entry_in s))
unfolding left_after each
left_history s zero = refl
left_history s (suc n) =
    ap (λ (g : Gate). (step g (port_in s n) (body_in s n)).next) (left_history s n)
    ∙ sym (after_end (start_of ports house) (each n (entry_in s)) (entry_in s n))

-- ---- the last entry

pub last_lines : (s : List ℕ) (last : ℕ) → last + 1 ≡ entry_count s → answer_of (left_after last s) (port_in s last) (body_in s last) ≡ last_of (entry_count s) s
unfolding last_of
last_lines s last is_last = ap (λ (n : ℕ). last_of n s) (sym (add-one last) ∙ is_last)

pub no_lines : (s : List ℕ) → entry_count s ≡ 0 → [] ≡ last_of (entry_count s) s
unfolding last_of
no_lines s z = ap (λ (n : ℕ). last_of n s) (sym z)

-- An entry of a file, the state that those before it leave, and the entries after it.
pub record Reached (s : List ℕ) (asked : Entry) (g : Gate) (rest : Entries) : Type 0 where
  pub file : rest.file.now ≡ s
  pub next : rest.index ≡ asked.index + 1
  pub port : asked.port ≡ port_in s asked.index
  pub body : asked.body.now ≡ body_in s asked.index
  pub state : g ≡ left_after asked.index s

pub reached_first : (all rest : Entries) (asked : Entry) {g : Gate} → all.index ≡ 0 → GivesEntry all (Some asked) rest → g ≡ start_of ports house → Reached all.file.now asked g rest
unfolding left_after
reached_first all rest asked z h e = record {
  file = h.4;
  next = h.5 ∙ ap (λ (n : ℕ). n + 1) (sym h.1);
  port = h.2 ∙ ap (port_in all.file.now) (sym h.1);
  body = h.3 ∙ ap (body_in all.file.now) (sym h.1);
  state = e ∙ ap (λ (n : ℕ). left_after n all.file.now) (sym (h.1 ∙ z));
}

module _ {s : List ℕ} {asked : Entry} {g : Gate} {rest : Entries} (r : Reached s asked g rest) where
  pub reached_next : (after : Entries) (entry : Entry) {g' : Gate} → GivesEntry rest (Some entry) after → g' ≡ (step g asked.port asked.body.now).next → Reached s entry g' after
  unfolding left_after
  reached_next after entry {g'} h e =
      let here : entry.index ≡ suc asked.index = h.1 ∙ r.next ∙ add-one asked.index in
      let left : g' ≡ left_after (suc asked.index) s = e ∙ λ i. (step (r.state i) (r.port i) (r.body i)).next in record {
        file = h.4 ∙ r.file;
        next = h.5 ∙ ap (λ (n : ℕ). n + 1) (sym h.1);
        port = h.2 ∙ λ i. port_in (r.file i) (sym h.1 i);
        body = h.3 ∙ λ i. body_in (r.file i) (sym h.1 i);
        state = left ∙ ap (λ (n : ℕ). left_after n s) (sym here);
      }

  pub reached_last : (after : Entries) → GivesEntry rest None after → answer_of g asked.port asked.body.now ≡ last_of (entry_count s) s
  reached_last after h =
      (λ i. answer_of (r.state i) (r.port i) (r.body i)) ∙ last_lines s asked.index (sym r.next ∙ h ∙ ap entry_count r.file)
