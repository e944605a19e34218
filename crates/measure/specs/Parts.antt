-- What the inner functions of the reader and the writer answer.
use Rattle.std.specs.Prelude.{ℕ, not, ◌&&◌, ℤ, pos, negsuc, eqb}
use Rattle.refusal.specs.Answer.{Answer, Served, ◌unless◌, ◌then◌}
use Rattle.measure.specs.Measure.{plus, minus, is_mark, signed_of}

-- the answer to a mark and the measure's number after it
unfoldable pub with_mark : ℕ → ℕ → Answer ℤ
with_mark mark n = 13 unless is_mark mark then 13 unless not (eqb mark minus && eqb n 0) then Served (signed_of mark n)

-- the mark of a signed number
unfoldable pub mark_of : ℤ → ℕ
mark_of (pos n) = plus
mark_of (negsuc n) = minus
