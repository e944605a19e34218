-- The squared distances of the joints of an answer.
use Prim.Native.Nat.{ℕ, ◌*◌, ◌^◌, ◌≤◌, ◌<◌}
use mathlib.Core.List.{List, map}
use native.Mathlib.Omega.{arith}
use lib.ListN.{length, length-take}
use lib.IntN.{nat_abs}
use lib.Pow.{pow_mono}
use Rattle.order.specs.Order.{sort}
use Rattle.order.proofs.Total.{all_map}
use Rattle.order.proofs.Bag.{Each, each_fewer, count-sort, count_take_le}
use Rattle.board.specs.Limits.{max_height, max_place, max_side}
use Rattle.board.specs.Levels.{Box, joints}
use Rattle.board.proofs.Under.{joints_on_board}
use Rattle.board.proofs.Bounds.{side_is}
use Rattle.search.specs.Near.{Place, near}
use Rattle.search.specs.Keys.{joint_key, distance_of}
use Rattle.search.specs.Question.{joint_keys, answer_keys}
use Rattle.search.proofs.Near.{near_at_most, farthest_now}
use Rattle.search.proofs.Keys.{joint_says}
use Rattle.search.proofs.Underway.{all_numbers}

-- the greatest squared distance
abbrev pub max_distance : ℕ
max_distance = 18264968

module _ (p : Place) (row : nat_abs p.row ≤ max_place) (col : nat_abs p.col ≤ max_place) where
  -- no cell of the largest board is farther off
  pub near_most : (c : Box) → c.row < max_side → c.col < max_side → near p 1 c ≤ max_distance
  unfolding near
  near_most c r l = rw farthest_now at (near_at_most p {limit = max_place} {side = max_side} 1 (c.row * 1) (c.col * 1) (omega arith) row col (omega arith) (omega arith))

  -- no joint of an answer is farther off
  pub answer_near : (h : ℕ) (bytes : List ℕ) (k : ℕ) → h ≤ max_height → Each (λ x. distance_of x ≤ max_distance) (answer_keys p h bytes k)
  unfolding answer_keys joint_keys
  answer_near h bytes k low =
      let most : 2 ^ h ≤ max_side = omega (arith, pow_mono {i = h} {j = max_height} low, side_is) in
      each_fewer (all_numbers (joint_key p) (all_map (λ c s. rw (joint_says p c (omega (arith, s.rows)) (omega (arith, s.cols))).distance (near_most c (omega (arith, s.rows)) (omega (arith, s.cols)))) (joints_on_board bytes h)))
      (λ x. omega (arith, count_take_le k x (sort (map (joint_key p) (joints h bytes))), count-sort x (map (joint_key p) (joints h bytes))))

-- no more joints than are wanted
pub answer_few : (p : Place) (h : ℕ) (bytes : List ℕ) (k : ℕ) → length (answer_keys p h bytes k) ≤ k
unfolding answer_keys
answer_few p h bytes k = omega (arith, length-take k (sort (joint_keys p h bytes)))
