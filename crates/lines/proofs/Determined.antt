-- Each promise determines its call.
use Prim.Native.Nat.{ℕ, ◌≤◌}
use mathlib.Core.Path.{◌≡◌, refl, sym, ◌∙◌}
use native.Mathlib.Omega.{arith}
use mathlib.Core.HLevel.{is_prop→PathP}
use native.Mathlib.Bridge.{le_prop}
use lib.ListN.{length}
use Rattle.board.specs.Limits.{max_joints}
use Rattle.promise.specs.Determines.{Determines}
use Rattle.std.specs.Prelude.{Option, Some, None}
use Rattle.lent.proofs.References.{same_reference}
use Rattle.lines.specs.declared.lists.Lists.{Lists}
use Rattle.lines.specs.declared.start.BoardSize.{BoardSize}
use Rattle.text.proofs.Determined.{put_one_way}
use Rattle.lines.specs.Limits.{max_trail}
use Rattle.lines.specs.Lists.{Cleared}
use Rattle.lines.specs.Start.{told_in}
use Rattle.lines.specs.contracts.start.first_line as first-line-fn
use Rattle.lines.proofs.start.first_line.Reads as first-line
use Rattle.lines.specs.contracts.request.next_lines as next-lines-fn
use Rattle.lines.proofs.request.next_lines.Reads as next-lines

-- two boards that are told the same are equal
told_alike : (r s : Option BoardSize) → told_in r ≡ told_in s → r ≡ s
told_alike (Some b) (Some c) e =
    let high : b.height ≡ c.height = cc in
    let long : b.length ≡ c.length = cc in
    let there : b.requests ≡ c.requests = cc in
    λ i. Some (record { height = high i; length = long i; requests = there i })
told_alike (Some b) None e = let z : ◌≡◌ {A = ℕ} 0 1 = cc in absurd (omega arith)
told_alike None (Some c) e = let z : ◌≡◌ {A = ℕ} 0 1 = cc in absurd (omega arith)
told_alike None None e = refl

-- lists that are left with zeros are left in one way
cleared_alike : {was x y : Lists} → Cleared was x → Cleared was y → x ≡ y
cleared_alike {was} {x} {y} p q =
    let rows = same_reference was.rows x.rows y.rows p.same.rows q.same.rows (p.rows ∙ sym q.rows) in
    let columns = same_reference was.columns x.columns y.columns p.same.columns q.same.columns (p.columns ∙ sym q.columns) in
    let keys = same_reference was.keys x.keys y.keys p.same.keys q.same.keys (p.keys ∙ sym q.keys) in
    let corners = same_reference was.corners x.corners y.corners p.same.corners q.same.corners (p.corners ∙ sym q.corners) in
    let trail = same_reference was.trail x.trail y.trail p.same.trail q.same.trail (p.trail ∙ sym q.trail) in
    λ i. record {
      rows = rows i;
      columns = columns i;
      keys = keys i;
      corners = corners i;
      trail = trail i;
      few = is_prop→PathP (λ j. length (rows j).now ≤ max_joints) (λ j. le_prop) x.few y.few i;
      short = is_prop→PathP (λ j. length (trail j).now ≤ max_trail) (λ j. le_prop) x.short y.short i;
    }

pub first_line_determined : Determines first-line-fn.ended first-line.Asked first-line.Learnt
first_line_determined κs a asked x y left other p q =
    let out = put_one_way p.text q.text in (
      λ i. record { board = told_alike x.board y.board (p.told ∙ sym q.told) i; end = out.0 i },
      λ i. (tt, ((p.work_left ∙ sym q.work_left) i, ((p.bitmap_left ∙ sym q.bitmap_left) i, (out.1 i, tt)))),
    )

pub next_lines_determined : Determines next-lines-fn.ended next-lines.Asked next-lines.Learnt
next_lines_determined κs a asked x y left other p q =
    let out = put_one_way p.0.text q.0.text in
    let lists = cleared_alike p.1 q.1 in (
      λ i. record { length = out.0 i; next = (p.0.next ∙ sym q.0.next) i },
      λ i. (tt, (tt, (tt, (lists i, (out.1 i, tt))))),
    )
