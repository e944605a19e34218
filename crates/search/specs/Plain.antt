-- What a question asks for in the words of document 01, without keys: the first K joints, and the trail.
-- proofs/Plain.antt: the answer and the trail of Question.antt are these, and no other lists are.
use Rattle.std.specs.Prelude.{ℕ, ◌+◌, ◌*◌, ◌-◌, ◌^◌, ◌≤◌, ◌<◌, min, true, ◌≡◌, ◌⊎◌, ◌↔◌, length, pos, nat_abs, ◌-ℤ◌}
use mathlib.Core.List.{List, [], ◌∷◌, ◌++◌, Memᴰ}
use Rattle.board.specs.Levels.{Box, joints}
use Rattle.board.specs.Member.{stored}
use Rattle.board.specs.Under.{Stands}
use Rattle.search.specs.Near.{Place, square}

-- ---- lists

-- x is one of a list
infix 4 ◌∈◌
abbrev pub ◌∈◌ : {A : Type 0} → A → List A → Type 0
x ∈ l = Memᴰ x l

-- each comes before all that follow it
abbrev pub InOrder : {A : Type 0} → (A → A → Type 0) → List A → Type 0
InOrder before [] = Unit {0}
InOrder {A} before (x ∷ xs) = ((y : A) → y ∈ xs → before x y) × InOrder before xs

-- x is the last of a list
abbrev pub Last : {A : Type 0} → A → List A → Type 0
Last x [] = ⊥
Last x (y ∷ []) = x ≡ y
Last x (y ∷ z ∷ zs) = Last x (z ∷ zs)

-- l is the beginning of m
pub record Starts {A : Type 0} (l m : List A) : Type 0 where
  pub rest : List A
  pub whole : m ≡ l ++ rest

-- ---- the joints

-- the squared distance to the cell in row r and column c: the row difference squared plus the column difference squared
unfoldable pub distance : Place → ℕ → ℕ → ℕ
distance p r c = square (nat_abs (pos r -ℤ p.row)) + square (nat_abs (pos c -ℤ p.col))

-- a place of the answer list: row, column and squared distance
pub record Joint : Type 0 where
  pub row : ℕ
  pub column : ℕ
  pub distance : ℕ

-- it is a stored cell, with its squared distance
pub record IsJoint (p : Place) (h : ℕ) (bytes : List ℕ) (f : Joint) : Type 0 where
  pub is_stored : stored h bytes f.row f.column ≡ true
  pub measured : f.distance ≡ distance p f.row f.column

-- by squared distance, then row, then column
pub data Before (f g : Joint) : Type 0 where
  by_distance : f.distance < g.distance → Before f g
  by_row : f.distance ≡ g.distance → f.row < g.row → Before f g
  by_column : f.distance ≡ g.distance → f.row ≡ g.row → f.column < g.column → Before f g

-- the first k joints in that order, or all where there are fewer
pub record FirstJoints (p : Place) (h : ℕ) (bytes : List ℕ) (k : ℕ) (found : List Joint) : Type 0 where
  pub in_order : InOrder Before found
  pub joints_only : (f : Joint) → f ∈ found → IsJoint p h bytes f
  pub others_after : (f : Joint) → IsJoint p h bytes f → (f ∈ found) ⊎ ((g : Joint) → g ∈ found → Before g f)
  pub many : length found ≡ min k (length (joints h bytes))

-- ---- the boxes

-- the cell in row r and column c lies in box b: s rows and s columns from the box's corner on
pub record Lies (s : ℕ) (b : Box) (r c : ℕ) : Type 0 where
  pub top : b.row * s ≤ r
  pub bottom : r < b.row * s + s
  pub left : b.col * s ≤ c
  pub right : c < b.col * s + s

-- it holds a joint
pub record Holds (h : ℕ) (bytes : List ℕ) (s : ℕ) (b : Box) : Type 0 where
  pub row : ℕ
  pub column : ℕ
  pub lies : Lies s b row column
  pub is_stored : stored h bytes row column ≡ true

-- d is the smallest squared distance to any of its cells, stored or not
pub record Smallest (p : Place) (s : ℕ) (b : Box) (d : ℕ) : Type 0 where
  pub least : (r c : ℕ) → Lies s b r c → d ≤ distance p r c
  pub row : ℕ
  pub column : ℕ
  pub lies : Lies s b row column
  pub there : distance p row column ≡ d

-- group g is a box of a board of height h, and d is its near distance
pub record NearDistance (p : Place) (h : ℕ) (bytes : List ℕ) (g d : ℕ) : Type 0 where
  pub level : ℕ
  pub box : Box
  pub above : level < h
  pub stands : Stands bytes level g box
  pub smallest : Smallest p (2 ^ (h - level)) box d

-- groups by near distance, then group number
pub data Sooner (p : Place) (h : ℕ) (bytes : List ℕ) (g g' : ℕ) : Type 0 where
  by_distance : {d d' : ℕ} → NearDistance p h bytes g d → NearDistance p h bytes g' d' → d < d' → Sooner p h bytes g g'
  by_number : {d : ℕ} → NearDistance p h bytes g d → NearDistance p h bytes g' d → g < g' → Sooner p h bytes g g'

-- a near distance that is reached: at most the last joint's where k were found, and any where fewer were
pub data Reached (k : ℕ) (found : List Joint) (d : ℕ) : Type 0 where
  no_farther : (f : Joint) → Last f found → d ≤ f.distance → Reached k found d
  fewer : length found < k → Reached k found d

-- the box of group g is to be opened
pub record Opened (p : Place) (h : ℕ) (bytes : List ℕ) (k : ℕ) (found : List Joint) (g : ℕ) : Type 0 where
  pub distance : ℕ
  pub near : NearDistance p h bytes g distance
  pub reached : Reached k found distance

-- the trail: exactly the boxes to be opened, each once
pub record Trail (p : Place) (h : ℕ) (bytes : List ℕ) (k : ℕ) (found : List Joint) (boxes : List ℕ) : Type 0 where
  pub in_order : InOrder (Sooner p h bytes) boxes
  pub exactly : (g : ℕ) → g ∈ boxes ↔ Opened p h bytes k found g
