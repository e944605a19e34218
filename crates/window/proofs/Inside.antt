-- What a window finds: exactly the joints inside it, each once, in bitmap order.
use Prim.Native.Nat.{ℕ}
use mathlib.Core.Bool.{Bool, ◌&&◌}
use mathlib.Core.Path.{◌≡◌, ◌∙◌}
use mathlib.Core.Logic.{⊎_elim}
use mathlib.Core.List.{List, [], ◌∷◌, map}
use lib.Dec.{eqb}
use borrow.Author.Tests.{eqb-true}
use Rattle.refusal.proofs.Tests.{both}
use Rattle.order.specs.Order.{keep}
use Rattle.order.proofs.Cases.{test_cases, same?}
use Rattle.order.proofs.Sets.{In, Rising, has_here, has_there, in_cons}
use Rattle.board.specs.Levels.{Box, joints}
use Rattle.board.specs.Code.{code_of}
use Rattle.board.specs.Member.{among, stored}
use Rattle.window.specs.Window.{Window, inside, found}
use Rattle.board.proofs.Codes.{box_path, codes}
use Rattle.board.proofs.Children.{rising_codes}

-- the cell in row r and column c
abbrev cell : ℕ → ℕ → Box
cell r c = record { row = r; col = c }

-- a cell is among those that pass a test where it is among all and passes
among_kept : (p : Box → Bool) (r c : ℕ) (l : List Box) → among r c (keep p l) ≡ p (cell r c) && among r c l
unfolding among keep
among_kept p r c [] = test_cases (p (cell r c)) (λ e. rw e) (λ e. rw e)
among_kept p r c (b ∷ bs) = go (among_kept p r c bs)
  where
    go : among r c (keep p bs) ≡ p (cell r c) && among r c bs → among r c (keep p (b ∷ bs)) ≡ p (cell r c) && among r c (b ∷ bs)
    go rest = test_cases (eqb r b.row && eqb c b.col)
        (λ e. let eqs = both (eqb r b.row) (eqb c b.col) e in
        let same : cell r c ≡ b = box_path (cell r c) b (eqb-true r b.row eqs.0) (eqb-true c b.col eqs.1) in
        test_cases (p b) (λ f. rw (same, f, e)) (λ f. rw (same, f) (rw (same, f) at rest)))
        (λ e. test_cases (p b) (λ f. rw (f, e) rest) (λ f. rw (f, e) rest))

-- a cell is found exactly where it is inside and is a joint
pub found_stored : (w : Window) (h : ℕ) (bytes : List ℕ) (r c : ℕ) → among r c (found w h bytes) ≡ inside w (cell r c) && stored h bytes r c
unfolding found stored
found_stored w h bytes r c = among_kept (inside w) r c (joints h bytes)

-- what passes a test was there
kept_in : (f : Box → ℕ) (p : Box → Bool) (z : ℕ) (l : List Box) → In z (map f (keep p l)) → In z (map f l)
unfolding keep
kept_in f p z [] h = h
kept_in f p z (b ∷ bs) h = test_cases (p b) (λ e. ⊎_elim (λ k. rw k (has_here (f b) (map f bs))) (λ k. later (kept_in f p z bs k)) (in_cons z (f b) (map f (keep p bs)) (rw e at h))) (λ e. later (kept_in f p z bs (rw e at h)))
  where
    later : In z (map f bs) → In z (f b ∷ map f bs)
    later k = same? z (f b) (λ e. rw e (has_here (f b) (map f bs))) (λ n. has_there z (f b) (map f bs) n ∙ k)

-- and stays in order
kept_rising : (f : Box → ℕ) (p : Box → Bool) (l : List Box) → Rising (map f l) → Rising (map f (keep p l))
unfolding keep
kept_rising f p [] h = tt
kept_rising f p (b ∷ bs) h = test_cases (p b) (λ e. rw e ((λ z i. h.0 z (kept_in f p z bs i)), kept_rising f p bs h.1)) (λ e. rw e (kept_rising f p bs h.1))

-- the cells that are found are in bitmap order, each once: their codes rise
pub found_rising : (w : Window) (h : ℕ) (bytes : List ℕ) → Rising (map (code_of h) (found w h bytes))
unfolding found codes
found_rising w h bytes = kept_rising (code_of h) (inside w) (joints h bytes) (rising_codes h bytes)
