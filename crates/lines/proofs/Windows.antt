-- What a window's answer says of its cells, and the lines that are put for it.
use Prim.Native.Nat.{ℕ, ◌≤◌, ◌-◌}
use mathlib.Core.Bool.{◌&&◌}
use mathlib.Core.Path.{◌≡◌, refl, sym}
use mathlib.Core.List.{List, map}
use native.Mathlib.Omega.{arith}
use lib.Dec.{leb}
use lib.ListN.{length, take, replicate, length-map}
use lib.Seq.{take_at}
use borrow.Author.Tests.{leb-true}
use Rattle.refusal.proofs.Tests.{both}
use Rattle.refusal.specs.Answer.{Answer, Served, Refused, ◌unless◌, ◌then◌, left_in}
use Rattle.refusal.proofs.Answers.{passed, went_on}
use Rattle.bitmap.specs.Directory.{directory_of, alike}
use Rattle.board.specs.Levels.{Box}
use Rattle.board.specs.Check.{check_of}
use Rattle.std.specs.Prelude.{Result, Ok, Err}
use Rattle.refusal.specs.declared.Refusal.{Refusal}
use Rattle.window.specs.Window.{Window, ends_fit, found, roomed, window_of, window_numbers, row_of, column_of, Shown}
use Rattle.lines.specs.Report.{window_lines, shown_lines, cells_in}

-- so many cells, and room for them in both lists
served_room : (m n rows columns : ℕ) → roomed m rows columns ≡ Served n → (n ≡ m) × (n ≤ rows) × (n ≤ columns)
unfolding roomed
served_room m n rows columns e =
    let ok = passed 9 (leb m rows && leb m columns) (Served m) e in
    let same : n ≡ m = cc in
    let tests = both (leb m rows) (leb m columns) ok.0 in
    (same, omega (arith, leb-true m rows tests.0), omega (arith, leb-true m columns tests.1))

-- the same of a window's answer
pub window_room : (h : ℕ) (bytes d : List ℕ) (w : Window) (rows columns n : ℕ) → window_of h bytes d w rows columns ≡ Served n → (n ≡ length (found w h bytes)) × (n ≤ rows) × (n ≤ columns)
unfolding window_of
window_room h bytes d w rows columns n e =
    let fit = ends_fit h w.top w.bottom && ends_fit h w.left w.right in
    let last = roomed (length (found w h bytes)) rows columns in
    let checked = went_on (check_of h bytes) (6 unless alike d (directory_of bytes) then 12 unless fit then last) e in
    let ranked = passed 6 (alike d (directory_of bytes)) (12 unless fit then last) checked.2 in
    served_room (length (found w h bytes)) n rows columns (passed 12 fit last ranked.1).1

-- as many cells as it says
pub window_all : (h : ℕ) (bytes d : List ℕ) (w : Window) (rows columns n : ℕ) → window_of h bytes d w rows columns ≡ Served n → n ≡ length (found w h bytes)
window_all h bytes d w rows columns n e = (window_room h bytes d w rows columns n e).0

-- a list in which so much was found begins with it
pub left_begins : {A : Type 0} (m : A) (n : ℕ) (found : List ℕ) (room : ℕ) → n ≡ length found → take n (left_in (Served m) found room) ≡ found
unfolding left_in
left_begins m n found room e = take_at found (replicate (room - length found) 0) n (sym e)

-- a window's answer with what is left in its lists makes the lines of the cells inside it
pub shown_are : (answer : Answer ℕ) (cells : List Box) (windowed : Result ℕ Refusal) (rows rows' columns columns' : List ℕ) → Shown answer cells windowed rows rows' columns columns'
    → ((n : ℕ) → answer ≡ Served n → n ≡ length cells) → shown_lines (window_numbers windowed) rows' columns' ≡ window_lines answer cells
unfolding shown_lines window_lines
shown_are (Served n) cells windowed rows rows' columns columns' shown all =
    let m = all n refl in
    let found_rows : take n rows' ≡ map row_of cells = rw shown.rows_left (left_begins n n (map row_of cells) (length rows) (rw length-map m)) in
    let found-columns : take n columns' ≡ map column_of cells = rw shown.columns_left (left_begins n n (map column_of cells) (length columns) (rw length-map m)) in
    rw (shown.returned, found_rows, found-columns)
shown_are (Refused n) cells windowed rows rows' columns columns' shown all = rw shown.returned

-- and it has room for as many cells as it says
pub cells_room : (h : ℕ) (bytes d : List ℕ) (w : Window) (rows columns : ℕ) (windowed : Result ℕ Refusal) → window_numbers windowed ≡ window_of h bytes d w rows columns → (cells_in windowed ≤ rows) × (cells_in windowed ≤ columns)
cells_room h bytes d w rows columns (Ok n) e = let room = window_room h bytes d w rows columns n (sym e) in (room.1, room.2)
cells_room h bytes d w rows columns (Err refusal) e = (omega arith, omega arith)
