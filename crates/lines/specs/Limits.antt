-- The room that the program has for a report.
use Rattle.std.specs.Prelude.{ℕ}

-- enough bytes for the lines of any record
abbrev pub room : ℕ
room = 131072

-- the program's places for the joints found and for the trail
abbrev pub max_answers : ℕ
max_answers = 255

abbrev pub max_trail : ℕ
max_trail = 4096
