-- What a trial file prints in words: why each report was sent to a leg or held back from it (document 02, W1: "The yard crew can't tell why a report was held back").
use Rattle.std.specs.Prelude.{ℕ, zero, suc, ◌-◌, ◌*◌, Bool, true, false, cond, ◌||◌, List, [], ◌++◌, ◌==◌}
use Rattle.numbers.specs.Numbers.{bytes_of}
use Rattle.basics.specs.Lists.{first_or}
use Rattle.basics.specs.Refusals.{answered}
use Rattle.range.specs.declared.Block.{Block}
use Rattle.range.specs.Range.{last, house}
use Rattle.text.specs.Text.{decimal, hex_of, ascii, new_line, bad_file}
use Rattle.gateway_rules.specs.declared.Holder.{Holder}
use Rattle.gateway_rules.specs.declared.Reason.{Reason}
use Rattle.gateway_rules.specs.declared.Reason.TheVariants.{ArrivalPort, AutomaticEvent, OpenPort, HeldBy, NothingHolds}
use Rattle.gateway_rules.specs.State.{Gate, start_of}
use Rattle.gateway_rules.specs.Step.{step}
use Rattle.gateway_rules.specs.Reasons.{reason_for, reported_in}
use Rattle.replay.specs.declared.entries.Entries.{Entries}
use Rattle.replay.specs.Files.{entry_count, port_in, body_in, good_file}
use Rattle.replay.specs.Lines.{ports, step_at}

-- ---- a leg

-- An Event ID in 16 digits, a Node ID in 12.
abbrev pub event_text : ℕ → List ℕ
event_text e = hex_of (bytes_of 8 e)

abbrev pub node_text : ℕ → List ℕ
node_text n = hex_of (bytes_of 6 n)

-- One event, or the first and the last.
unfoldable pub block_text : Block → List ℕ
block_text b = event_text b.start ++ cond (b.k == 0) [] (ascii " to " ++ event_text (last b))

-- The line of the table that holds the event: its place, whose it is, and what that board asked for.
unfoldable pub holder_text : Holder → List ℕ
holder_text l = ascii " sent: line " ++ (decimal l.place ++ (ascii ", board " ++ (node_text l.node ++ (ascii " asked for " ++ block_text l.block))))

-- The five reasons, each beginning with what became of the report.
abbrev pub reason_text : ℕ → Reason → List ℕ
reason_text e ArrivalPort = ascii " not sent: the report came in there"
reason_text e AutomaticEvent = ascii " sent: " ++ (event_text e ++ ascii " is automatic")
reason_text e OpenPort = ascii " sent: a full table opened the leg"
reason_text e (HeldBy l) = holder_text l
reason_text e NothingHolds = ascii " held back: nothing on that leg asks for " ++ event_text e

-- Of entry i's report of an event: the leg, which is a port, and the reason.
unfoldable pub leg_line : ℕ → ℕ → ℕ → Reason → List ℕ
leg_line i e p r = decimal i ++ (ascii ": leg " ++ (decimal p ++ (reason_text e r ++ new_line)))

-- The lines of n legs from leg p on.
unfoldable pub leg_lines : ℕ → ℕ → ℕ → Gate → ℕ → ℕ → List ℕ
leg_lines zero p i g q e = []
leg_lines (suc n) p i g q e = leg_line i e p (reason_for g q e p) ++ leg_lines n (suc p) i g q e

-- ---- an entry

unfoldable pub refused_line : ℕ → ℕ → List ℕ
refused_line i n = decimal i ++ (ascii ": refused " ++ (decimal n ++ ascii ": sent to no leg\n"))

-- The event of a report.
abbrev pub event_in : List ℕ → ℕ
event_in bytes = first_or 0 (λ e. e) (reported_in bytes)

-- A line for each leg where an event report is accepted, one where an entry is refused, none for any other message.
unfoldable pub entry_lines : ℕ → Gate → ℕ → List ℕ → List ℕ
entry_lines i g q bytes = answered (first_or [] (leg_lines ports 0 i g q)) (refused_line i) (step g q bytes).refusal (reported_in bytes)

-- Whether it is an event report that is accepted.
unfoldable pub accepted_report : Gate → ℕ → List ℕ → Bool
accepted_report g q bytes = answered (first_or false (λ _. true)) (λ _. false) (step g q bytes).refusal (reported_in bytes)

-- ---- the text

abbrev pub no_report : List ℕ
no_report = ascii "no event report was accepted\n"

-- The lines of n entries from entry i on, where a report was accepted before or not yet.
unfoldable pub lines_from : ℕ → ℕ → Bool → Gate → List ℕ → List ℕ
lines_from zero i reported g s = cond reported [] no_report
lines_from (suc n) i reported g s =
    entry_lines i g (port_in s i) (body_in s i) ++ lines_from n (suc i) (reported || accepted_report g (port_in s i) (body_in s i)) (step_at g s i).next s

-- The lines of the entries that are still to come.
abbrev pub lines_of : Bool → Gate → Entries → List ℕ
lines_of reported g e = lines_from (entry_count e.file.now - e.index) e.index reported g e.file.now

-- From a start of 4 ports with the house block, as the trial program has it.
unfoldable pub text_of : List ℕ → List ℕ
text_of s = cond (good_file s) (lines_from (entry_count s) 0 false (start_of ports house) s) bad_file

-- ---- how long it can be

-- "999: leg 3 sent: line 255, board .. asked for .. to .." and the new line, with 12 and twice 16 digits.
abbrev pub longest_line : ℕ
longest_line = 93

-- At most 1,000 entries.
abbrev pub longest : ℕ
longest = 1000 * (ports * longest_line)

-- No text has more parts.
abbrev pub most_parts : ℕ
most_parts = 6
