-- Reading a sheet: the joints' codes are those of its cells, and what is built from them is its board.
use Prim.Native.Nat.{ℕ, zero, suc, ◌^◌, ◌≤◌, ◌<◌}
use mathlib.Core.Path.{◌≡◌, refl, sym, ap, ◌∙◌}
use mathlib.Core.List.{List, [], ◌∷◌, ◌++◌, map, map-append}
use native.Mathlib.Omega.{arith}
use lib.ListN.{length, take, drop, replicate, length-replicate}
use lib.Seq.{take-suc, take_all, take_at}
use borrow.Author.Tests.{le-leb, lt-leb}
use Rattle.std.specs.Prelude.{Result, Ok, Err}
use Rattle.refusal.specs.declared.Refusal.{Refusal}
use Rattle.refusal.specs.declared.Refusal.TheVariants.{WorkRoom}
use Rattle.refusal.specs.Numbers.{number_of}
use Rattle.refusal.specs.Answer.{left_in}
use Rattle.order.proofs.Sets.{In}
use Rattle.board.specs.Levels.{Box}
use Rattle.board.specs.Code.{code_of}
use Rattle.build.specs.declared.Built.{Built}
use Rattle.build.specs.Build.{bitmap_of_codes, bitmap_of}
use Rattle.build.specs.Answers.{codes_built_of}
use Rattle.build.specs.Promise.{Kept}
use Rattle.build.proofs.Building.{codes_small}
use Rattle.records.specs.declared.record.Record.{Record}
use Rattle.sheet.specs.Sheet.{Verdict, Accepted, RefusedAt, offset, ◌onward◌, sheet_of, height_in, cells_in, joint_offset}
use Rattle.sheet.specs.Scan.{scan_of}
use Rattle.sheet.specs.Codes.{code_at, codes_at}
use Rattle.sheet.specs.Promise.{board_of, read_of, bitmap_in, Promise}
use Rattle.sheet.proofs.Shape.{sheet_shape, not_accepted, went_onward}
use Rattle.sheet.proofs.Filling.{length_codes}

module _ (sheet : List ℕ) (rs : List Record) (e : sheet_of sheet ≡ Accepted rs) where
  -- the codes at the joints' offsets are those of the first cells
  codes_first : (n : ℕ) → n ≤ length (cells_in rs) → codes_at (height_in 0 rs) sheet n ≡ map (code_of (height_in 0 rs)) (take n (cells_in rs))
  unfolding codes_at code_at
  codes_first zero le = refl
  codes_first (suc n) le =
      let none : Box = record { row = 0; col = 0 } in
      rw (take-suc (cells_in rs) n none le, map-append, (sheet_shape sheet rs e).joint n none le, codes_first n (omega arith))

  -- and of all
  pub codes_are : codes_at (height_in 0 rs) sheet (length (cells_in rs)) ≡ map (code_of (height_in 0 rs)) (cells_in rs)
  codes_are = codes_first (length (cells_in rs)) (omega arith) ∙ ap (map (code_of (height_in 0 rs))) (take_all (length (cells_in rs)) (cells_in rs) (omega arith))

  module _ (h n : ℕ) (height : height_in 0 rs ≡ h) (many : length (cells_in rs) ≡ n) (work m : List ℕ) (f : m ≡ codes_at h sheet n ++ drop n work) where
    -- once the work list is filled they stand in its first places
    pub filled_first : take n m ≡ map (code_of h) (cells_in rs)
    filled_first = ap (take n) f ∙ take_at (codes_at h sheet n) (drop n work) n (length_codes h sheet n) ∙ rw (height, many) at codes_are

    -- on the board
    pub filled_small : (z : ℕ) → In z (take n m) → z < 4 ^ h
    filled_small z i = codes_small h (cells_in rs) z (rw filled_first at i)

    -- what is built from them is built from the cells
    pub filled_kept : (room : ℕ) (r : Result Built Refusal) (w b : List ℕ) → length m ≡ length work
        → Kept (codes_built_of h (take n m) room) (bitmap_of_codes h (take n m)) (length m) room r w b
        → Kept (codes_built_of h (map (code_of h) (cells_in rs)) room) (bitmap_of h (cells_in rs)) (length work) room r w b
    unfolding bitmap_of
    filled_kept room r w b long k = rw (filled_first, long) at k

-- a scan that accepts: the records, their height and their joints
pub scan_accepts : {P : Type 0} (sheet : List ℕ) (h n : ℕ) → scan_of sheet ≡ Accepted (h ∷ n ∷ [])
    → ((rs : List Record) → sheet_of sheet ≡ Accepted rs → height_in 0 rs ≡ h → length (cells_in rs) ≡ n → P) → P
unfolding scan_of
scan_accepts sheet h n e go =
    went_onward (sheet_of sheet) _ e λ rs k f.
    go rs k (let same : height_in 0 rs ≡ h = cc in same) (let same : length (cells_in rs) ≡ n = cc in same)

-- the offset of the first record after the joints is within the sheet
pub requests_within : (sheet : List ℕ) (h n : ℕ) → Accepted (h ∷ n ∷ []) ≡ scan_of sheet → joint_offset n < length sheet
requests_within sheet h n e = scan_accepts sheet h n (sym e) λ rs k height many. rw many at (sheet_shape sheet rs k).long

-- a scan that refuses
scan_refuses : (sheet : List ℕ) (k at : ℕ) → scan_of sheet ≡ RefusedAt k at → sheet_of sheet ≡ RefusedAt k at
unfolding scan_of
scan_refuses sheet k at = by_verdict (sheet_of sheet)
  where
    by_verdict : (v : Verdict (List Record)) → (v onward λ rs. Accepted (height_in 0 rs ∷ length (cells_in rs) ∷ [])) ≡ RefusedAt k at → v ≡ RefusedAt k at
    by_verdict (Accepted rs) e = not_accepted (sym e)
    by_verdict (RefusedAt m o) e = let same : m ≡ k = cc in let there : o ≡ at = cc in rw (same, there)

-- a sheet has one list of records
pub one_list : (sheet : List ℕ) (rs qs : List Record) → sheet_of sheet ≡ Accepted rs → sheet_of sheet ≡ Accepted qs → rs ≡ qs
one_list sheet rs qs e f = cc

module _ (sheet work bitmap w b : List ℕ) (cleared : w ≡ replicate (length work) 0) (also : b ≡ replicate (length bitmap) 0) where
  -- the lists keep their lengths
  long : length w ≡ length work
  long = ap length cleared ∙ length-replicate (length work) 0

  wide : length b ≡ length bitmap
  wide = ap length also ∙ length-replicate (length bitmap) 0

  -- refused, with zeros left
  promise_zeros : (refusal : Refusal) (at : ℕ) → RefusedAt (number_of refusal) at ≡ read_of sheet (length work) (length bitmap) → Promise sheet work bitmap (Err (record { refusal = refusal; offset = at })) w b
  unfolding left_in
  promise_zeros refusal at e = record { answered = e; work_left = cleared; bitmap_left = rw (← e) also }

  -- a sheet that is refused
  pub promise_refused : (refusal : Refusal) (at : ℕ) → scan_of sheet ≡ RefusedAt (number_of refusal) at → Promise sheet work bitmap (Err (record { refusal = refusal; offset = at })) w b
  promise_refused refusal at e = promise_zeros refusal at (unfold read_of in rw (scan_refuses sheet (number_of refusal) at e))

  module _ (h n : ℕ) (e : scan_of sheet ≡ Accepted (h ∷ n ∷ [])) where
    -- too little work room
    pub promise_room : length w < n → Promise sheet work bitmap (Err (record { refusal = WorkRoom; offset = 0 })) w b
    promise_room short =
        scan_accepts sheet h n e λ rs k height many.
        promise_zeros WorkRoom 0 (unfold read_of board_of in rw (k, lt-leb (length (cells_in rs)) (length work) (omega (arith, long))))

    module _ (room : n ≤ length w) (w' b' : List ℕ) where
      -- what is answered then
      answers : (rs : List Record) → sheet_of sheet ≡ Accepted rs → height_in 0 rs ≡ h → length (cells_in rs) ≡ n
          → read_of sheet (length work) (length bitmap) ≡ (offset 0 (codes_built_of h (map (code_of h) (cells_in rs)) (length bitmap)) onward λ built. Accepted (h ∷ (built ++ joint_offset n ∷ [])))
      unfolding read_of board_of
      answers rs k height many = rw (k, le-leb (length (cells_in rs)) (length work) (omega (arith, long)), height, many)

      -- a board
      pub promise_board : (built : Built) → ((rs : List Record) → sheet_of sheet ≡ Accepted rs → Kept (codes_built_of h (map (code_of h) (cells_in rs)) (length b)) (bitmap_of h (cells_in rs)) (length w) (length b) (Ok built) w' b')
          → Promise sheet work bitmap (Ok (record { height = h; joints = built.joints; boxes = built.boxes; length = built.length; requests = joint_offset n })) w' b'
      unfolding left_in bitmap_in
      promise_board built kept =
          scan_accepts sheet h n e λ rs k height many.
          let so = rw (long, wide) at (kept rs k) in
          let said = answers rs k height many ∙ rw (← so.answered) in
          record {
            answered = sym said;
            work_left = so.work_left;
            bitmap_left = rw (said, k, height) (rw (← so.answered) at so.bitmap_left);
          }

      -- refused by the board's building: 5 or 18
      pub promise_not_built : (refusal : Refusal) → ((rs : List Record) → sheet_of sheet ≡ Accepted rs → Kept (codes_built_of h (map (code_of h) (cells_in rs)) (length b)) (bitmap_of h (cells_in rs)) (length w) (length b) (Err refusal) w' b')
          → Promise sheet work bitmap (Err (record { refusal = refusal; offset = 0 })) w' b'
      unfolding left_in
      promise_not_built refusal kept =
          scan_accepts sheet h n e λ rs k height many.
          let so = rw (long, wide) at (kept rs k) in
          let said = answers rs k height many ∙ rw (← so.answered) in
          record {
            answered = sym said;
            work_left = so.work_left;
            bitmap_left = rw said (rw (← so.answered) at so.bitmap_left);
          }
