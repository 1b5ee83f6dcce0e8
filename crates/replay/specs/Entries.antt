-- The entries of a trial file, one after another.
use Rattle.std.specs.Prelude.{◌≡◌, ℕ, ◌+◌, ◌<◌, true, false, List, Option, Some, None}
use Rattle.replay.specs.declared.entries.Entry.{Entry}
use Rattle.replay.specs.declared.entries.Entries.{Entries}
use Rattle.replay.specs.Files.{entry_count, port_in, body_in, good_file}

-- All entries of a good file, and none of any other.
abbrev pub FirstOf : List ℕ → Option Entries → Type 0
FirstOf file None = good_file file ≡ false
FirstOf file (Some e) = (good_file file ≡ true) × (e.file.now ≡ file) × (e.index ≡ 0)

-- The next entry, and the entries after it; none after the last.
abbrev pub GivesEntry : Entries → Option Entry → Entries → Type 0
GivesEntry e None after = e.index ≡ entry_count e.file.now
GivesEntry e (Some entry) after =
    (e.index < entry_count e.file.now)
    × (entry.index ≡ e.index)
    × (entry.port ≡ port_in e.file.now e.index)
    × (entry.body.now ≡ body_in e.file.now e.index)
    × (after.file.now ≡ e.file.now)
    × (after.index ≡ e.index + 1)
