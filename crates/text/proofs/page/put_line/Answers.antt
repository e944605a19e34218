use Prim.Native.Nat.{ℕ, ◌+◌}
use mathlib.Core.Path.{◌≡◌}
use mathlib.Core.List.{List, flat_map}
use native.Mathlib.Omega.{arith}
use lib.ListN.{length, length-append, length-set}
use Rattle.text.specs.Text.{line_feed, field, bytes_of}
use Rattle.text.proofs.Putting.{put_one, put_then, put-length}
use Rattle.text.proofs.page.put_line.Goals as goal

-- the bytes of a line
line-length : (word numbers : List ℕ) → length (bytes_of (record { word = word; numbers = numbers })) ≡ length word + length (flat_map field numbers) + 1
unfolding bytes_of
line-length word numbers = simp length-append

pub put_word-named-requires : goal.put_word-named-requires
put_word-named-requires c =
    let g = c.args in
    omega (arith, line-length g.word.now g.numbers.now)

pub put_fields-last-requires : goal.put_fields-last-requires
put_fields-last-requires c =
    let g = c.args in
    let e = c.put_word-named.ensures in
    omega (arith, line-length g.word.now g.numbers.now, e.place, put-length e)

pub bounds-out-last : goal.bounds-out-last
bounds-out-last c =
    let g = c.args in
    let e = c.put_word-named.ensures in
    let f = c.put_fields-last.ensures in
    omega (arith, line-length g.word.now g.numbers.now, e.place, put-length e, f.place, put-length f)

pub overflow_add-result : goal.overflow_add-result
overflow_add-result c =
    let g = c.args in
    let e = c.put_word-named.ensures in
    let f = c.put_fields-last.ensures in
    omega (arith, line-length g.word.now g.numbers.now, e.place, put-length e, f.place, put-length f)

pub shape_of-out : goal.shape_of-out
shape_of-out c =
    let e = c.put_word-named.ensures in
    let f = c.put_fields-last.ensures in
    rw length-set (put-length (put_then e f))

pub returns : goal.returns
unfolding bytes_of
returns c =
    let g = c.args in
    let e = c.put_word-named.ensures in
    let f = c.put_fields-last.ensures in
    put_then (put_then e f) (put_one line_feed _ _ (omega (arith, line-length g.word.now g.numbers.now, e.place, put-length e, f.place, put-length f)))
