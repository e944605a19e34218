-- The lines of the joints found, by the keys that a search leaves.
use Prim.Native.Nat.{ℕ, suc, ◌-◌, ◌^◌, ◌<◌}
use mathlib.Core.Path.{◌≡◌, ap, ◌∙◌}
use mathlib.Core.List.{List, [], ◌∷◌, map, flat_map, append-nil}
use native.Mathlib.Omega.{arith}
use lib.ListN.{length, get_or, length-map, get_or-map}
use Rattle.order.proofs.Total.{flat_map-append}
use Rattle.search.specs.Keys.{distance_of}
use Rattle.nearest.specs.Answers.{Handed}
use Rattle.seek.specs.Step.{handed_in}
use Rattle.nearest.proofs.Answering.{length_handed, handed_at}
use Rattle.text.specs.declared.page.Page.{Page}
use Rattle.text.specs.Text.{bytes_of, text_of}
use Rattle.text.specs.Page.{Puts}
use Rattle.text.specs.Lines.{ask_line, opened_line}
use Rattle.lines.specs.Report.{key_line, found_lines}
use Rattle.text.proofs.Paging.{puts_then}

-- as many lines as joints
pub keys_length : (n : ℕ) (keys : List ℕ) → length (map key_line (handed_in n keys)) ≡ n
keys_length n keys = rw length-map (length_handed n keys)

-- each by its key
pub keys_at : (n : ℕ) (keys : List ℕ) (i : ℕ) → i < n → get_or (map key_line (handed_in n keys)) i (key_line 0) ≡ key_line (get_or keys (length keys - 1 - i) 0)
keys_at n keys i h =
    let same : length keys - suc i ≡ length keys - 1 - i = omega arith in
    get_or-map key_line (handed_in n keys) i 0 ∙ ap key_line (handed_at n keys i h ∙ ap (λ (k : ℕ). get_or keys k 0) same)

-- a line holds its distance
pub handed_small : (n : ℕ) (keys : List ℕ) → Handed n keys → (i : ℕ) → i < length (handed_in n keys) → distance_of (get_or (handed_in n keys) i 0) < 2 ^ 32
handed_small n keys h i j = let lt : i < n = omega (arith, length_handed n keys) in rw (handed_at n keys i lt) (h.small i lt)

-- the three parts of a question's lines
pub found_puts : (k n m : ℕ) (found opened : List ℕ) {was one two is : Page} → n ≡ length found → m ≡ length opened
    → Puts (bytes_of (ask_line k n m)) was one → Puts (text_of (map key_line found)) one two → Puts (bytes_of (opened_line opened)) two is
    → Puts (text_of (found_lines k found opened)) was is
unfolding found_lines text_of flat_map
found_puts k n m found opened e f p q s =
    rw (flat_map-append bytes_of (map key_line found) (opened_line opened ∷ []), append-nil (bytes_of (opened_line opened)), ← e, ← f) (puts_then p (puts_then q s))
