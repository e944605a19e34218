-- A local array of n times one plain struct is lent in its first k places as a `&mut [T]`, and comes back. It says nothing of the crate.
-- docs/DECISIONS.md names `lends_first`; no proof of the crate cites it.
--     lends_first      the array  ⊢ ⇛ ∃ γ. own (the `&κ mut [T]` ((b, 0), γ, its first k elements)) ∗ the lender's part
--     first_back       [†κ] ∗ the lender's part ∗ finally γ ys  ⊢ ⇛ ∃ us. the array, at some machine values us
-- Assumes `Logic`.
use mathlib.Core.Path.{◌≡◌, refl, sym, ◌∙◌}
use Prim.Native.Nat.{ℕ, zero, suc}
use mathlib.Core.List.{List, [], ◌∷◌, ◌++◌}
use lib.ListN.{length, replicate, take, drop as drop-list, take-append-drop, length-replicate}
use seplogic.Ra.Ura.{Ura}
use base.Fraction.{full_share}
use mir.Syntax.{Lifetime, Ty, ty_array}
use mir.Val.{Val}
use base.Logic.{ent, sep, ex}
use base.Fml.{Lft, GName, Fml, fsep, fat, fdead, flent}
use types.Logic.{Logic, sem}
use types.Kit.{‵, ◌⊛◌, some, later, ◌$◌, ◌∵◌, !, qed, move, use1, use2, use3, drop, rewrite, split, pick, fsplit, fjoin, fpick, fpack, feq_l, feq_i, frame, await, updating, now as at_once, show, done}
use types.SemTy.{cells, Arr}
use types.Share.{arr_parts}
use denote.RattleType.{RattleType}
use denote.Laws.{Is, Makes}
use denote.Shadow.{shadow}
use denote.Memory.{cell_at, lone, part_at, mem, shares, part_of}
use denote.Array.{each, array_val, Array, Array-Makes}
use denote.ArrayMemory.{Single, Array-apart, Array-whole}
use denote.Slice.{slice_val, MutSlice, Room, finally}
use denote.Lend.{Held, lends_slice, slice_back}
use denote.Steps.{owned}
use borrow.Table.Elements.{at, cut_app, join_app, same_len}
use borrow.Rule.Slice.Shared.{parts-cells}

module _ (R : RattleType) (x : R.Denot) (u : Val) (is : Is R x (u ∷ [])) where
  each_is : (n : ℕ) → shadow (each R.Denot R.own_val (replicate n x) (replicate n u))
  each_is zero = tt
  each_is (suc n) = (is, each_is n)

  -- n times one element is an array of n
  pub all_is : (n : ℕ) → Is (Array R n) (replicate n x) (array_val (replicate n u) ∷ [])
  all_is n = (replicate n u, ((refl, length-replicate n x), each_is n))

module _ {M : Type 1} {𝓤 : Ura M} (𝓛 : Logic 𝓤) (R : RattleType) (n k : ℕ) (x : R.Denot) (κ : Lft) (b : ℕ) where
  open 𝓛 use {H, A}

  abbrev τ₀ : Ty
  τ₀ = lone R.mir

  abbrev pub firsts : List R.Denot
  firsts = take k (replicate n x)

  abbrev rest : List R.Denot
  rest = drop-list k (replicate n x)

  -- what the lender keeps: the way back, and the elements that are not lent
  abbrev pub Kept : GName → Fml
  Kept γ = fsep (flent κ (Held R (length firsts) b 0 γ)) (cells (mem R) rest b (at 0 (mem R).size (length firsts)))

  abbrev pub Slice : Lifetime → GName → Fml
  Slice ℓ γ = (MutSlice ℓ κ R).own_val (record { ref_ptr = (b, 0); ghost_name = γ; now = firsts }) (slice_val (b, 0) k ∷ [])

  pub lends_first : Single R.mir → Makes 𝓛 R (Is R) → (u : Val) → Is R x (u ∷ []) → (ℓ : Lifetime) → Room R (length firsts) → length firsts ≡ k
      → ent 𝓤 (sem 𝓛 (fat full_share (ty_array τ₀ n) b 0 (array_val (replicate n u)))) (H.⇛ (ex 𝓤 (λ (γ : GName). sep 𝓤 (sem 𝓛 (Slice ℓ γ)) (sem 𝓛 (Kept γ)))))
  unfolding part_of
  lends_first one mk u is ℓ room e =
      qed 𝓛 (‵ (fat full_share (ty_array τ₀ n) b 0 (array_val (replicate n u))) ∷ []) ∵ updating ! $
      use1 𝓛 (‵ (cell_at full_share (ty_array τ₀ n ∷ []) (array_val (replicate n u) ∷ []) b 0)) (𝓛.laws.at_raw full_share (ty_array τ₀ n) b 0 (array_val (replicate n u))) $
      owned ! (Array R n) (Is (Array R n)) (Array-Makes 𝓛 R mk n) (replicate n x) (array_val (replicate n u) ∷ []) (all_is R x u is n) $
      move ! (1 ∷ 0 ∷ []) $ fjoin ! $ fpack ! (List Val) (λ vs. fsep (cell_at full_share (ty_array τ₀ n ∷ []) vs b 0) ((Array R n).own_val (replicate n x) vs)) (array_val (replicate n u) ∷ []) $
      use1 𝓛 (‵ ((arr_parts (shares R) n).part full_share (replicate n x) b 0)) (Array-apart 𝓛 R full_share one n (replicate n x) b 0) $ fsplit ! $ feq_l ! (λ l.
      rewrite ! 0 (λ (F : Fml). ‵ F) (parts-cells R full_share (replicate n x) b 0) refl $
      rewrite ! 0 (λ (ys : List R.Denot). ‵ (cells (mem R) ys b 0)) (sym (take-append-drop k (replicate n x))) refl $
      use1 𝓛 (‵ (cells (mem R) firsts b 0) ⊛ ‵ (cells (mem R) rest b (at 0 (mem R).size (length firsts)))) (cut_app 𝓛 (mem R) firsts rest b 0) $ split ! $
      use1 𝓛 (later (some (λ (γ : GName). ‵ ((MutSlice ℓ κ R).own_val (record { ref_ptr = (b, 0); ghost_name = γ; now = firsts }) (slice_val (b, 0) (length firsts) ∷ [])) ⊛ ‵ (flent κ (Held R (length firsts) b 0 γ))))) (lends_slice 𝓛 R ℓ κ firsts b 0 room) $ await ! tt $ pick ! (λ γ. split ! $
      rewrite ! 0 (λ (m : ℕ). ‵ ((MutSlice ℓ κ R).own_val (record { ref_ptr = (b, 0); ghost_name = γ; now = firsts }) (slice_val (b, 0) m ∷ []))) e refl $
      at_once ! $ show ! (λ (γ' : GName). sep 𝓤 (sem 𝓛 (Slice ℓ γ')) (sem 𝓛 (Kept γ'))) γ $ frame ! $ fjoin ! $ done !))

  pub first_back : (γ : GName) (ys : List R.Denot) → length ys ≡ length firsts
      → ent 𝓤 (sep 𝓤 (A.dead κ) (sep 𝓤 (sem 𝓛 (Kept γ)) (sem 𝓛 (finally R γ ys)))) (H.⇛ (ex 𝓤 (λ (us : List Val). sem 𝓛 (fat full_share (ty_array τ₀ n) b 0 (array_val us)))))
  unfolding part_of
  first_back γ ys l =
      qed 𝓛 (‵ (fdead κ) ∷ ‵ (Kept γ) ∷ ‵ (finally R γ ys) ∷ []) ∵ updating ! $ move ! (1 ∷ []) $ fsplit ! $ move ! (2 ∷ 0 ∷ 3 ∷ []) $
      use3 𝓛 (later (‵ ((Arr (mem R) (length firsts)).own_at ys b 0))) (slice_back 𝓛 R κ γ ys (length firsts) b 0) $ await ! tt $ fsplit ! $ drop ! $ move ! (1 ∷ []) $
      rewrite ! 0 (λ (j : ℕ). ‵ (cells (mem R) rest b (at 0 (mem R).size j))) (sym l) refl $ move ! (1 ∷ 0 ∷ []) $
      use2 𝓛 (‵ (cells (mem R) (ys ++ rest) b 0)) (join_app 𝓛 (mem R) ys rest b 0) $
      rewrite ! 0 (λ (F : Fml). ‵ F) (sym (parts-cells R full_share (ys ++ rest) b 0)) refl $
      feq_i ! ℕ (length (ys ++ rest)) n (same_len k (replicate n x) ys l ∙ length-replicate n x) $ fjoin ! $
      use1 𝓛 (‵ (part_at (Array R n) full_share (ys ++ rest) b 0)) (Array-whole 𝓛 R full_share n (ys ++ rest) b 0) $
      fpick ! (λ vs. fsplit ! $ move ! (1 ∷ []) $ fpick ! (λ us. fsplit ! $ fsplit ! $ feq_l ! (λ e. feq_l ! (λ _. drop ! $
      rewrite ! 0 (λ (ws : List Val). ‵ (cell_at full_share (ty_array τ₀ n ∷ []) ws b 0)) e refl $
      use1 𝓛 (‵ (fat full_share (ty_array τ₀ n) b 0 (array_val us))) (𝓛.laws.raw_at full_share (ty_array τ₀ n) b 0 (array_val us)) $
      at_once ! $ show ! (λ (us' : List Val). sem 𝓛 (fat full_share (ty_array τ₀ n) b 0 (array_val us'))) us $ done !))))
