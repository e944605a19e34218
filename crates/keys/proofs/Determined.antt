-- Each promise determines its call.
use mathlib.Core.Path.{sym, ◌∙◌, refl}
use Rattle.promise.specs.Determines.{Determines}
use Rattle.keys.specs.contracts.distance.squared as squared-fn
use Rattle.keys.proofs.distance.squared.Reads as squared
use Rattle.keys.specs.contracts.distance.of_key as of-key-fn
use Rattle.keys.proofs.distance.of_key.Reads as of-key
use Rattle.keys.specs.contracts.distance.near as near-fn
use Rattle.keys.proofs.distance.near.Reads as near
use Rattle.keys.specs.contracts.distance.is_named as is-named-fn
use Rattle.keys.proofs.distance.is_named.Reads as is-named
use Rattle.keys.specs.contracts.entry.box_key as box-key-fn
use Rattle.keys.proofs.entry.box_key.Reads as box-key
use Rattle.keys.specs.contracts.entry.joint_key as joint-key-fn
use Rattle.keys.proofs.entry.joint_key.Reads as joint_key_lem
use Rattle.keys.specs.contracts.entry.is_joint as is-joint-fn
use Rattle.keys.proofs.entry.is_joint.Reads as is_joint_lem
use Rattle.keys.specs.contracts.entry.group_of as group-of-fn
use Rattle.keys.proofs.entry.group_of.Reads as Group-of
use Rattle.keys.specs.contracts.entry.row_of as row-of-fn
use Rattle.keys.proofs.entry.row_of.Reads as row_of
use Rattle.keys.specs.contracts.entry.col_of as col-of-fn
use Rattle.keys.proofs.entry.col_of.Reads as col-of
use Rattle.keys.specs.contracts.entry.corner_of as corner-of-fn
use Rattle.keys.proofs.entry.corner_of.Reads as corner-of
use Rattle.keys.specs.contracts.entry.levels_of as levels-of-fn
use Rattle.keys.proofs.entry.levels_of.Reads as levels-of
use Rattle.keys.specs.contracts.entry.top_of as top-of-fn
use Rattle.keys.proofs.entry.top_of.Reads as top_of
use Rattle.keys.specs.contracts.entry.left_of as left-of-fn
use Rattle.keys.proofs.entry.left_of.Reads as left-of

pub squared_determined : Determines squared-fn.ended squared.Asked squared.Learnt
squared_determined κs a asked x y left other p q = (p ∙ sym q, refl)

pub of_key_determined : Determines of-key-fn.ended of-key.Asked of-key.Learnt
of_key_determined κs a asked x y left other p q = (λ i. record { 0 = (p ∙ sym q) i }, refl)

pub near_determined : Determines near-fn.ended near.Asked near.Learnt
near_determined κs a asked x y left other p q = (λ i. record { 0 = (p ∙ sym q) i }, refl)

pub is_named_determined : Determines is-named-fn.ended is-named.Asked is-named.Learnt
is_named_determined κs a asked x y left other p q = (p ∙ sym q, refl)

pub box_key_determined : Determines box-key-fn.ended box-key.Asked box-key.Learnt
box_key_determined κs a asked x y left other p q = (p ∙ sym q, refl)

pub joint_key_determined : Determines joint-key-fn.ended joint_key_lem.Asked joint_key_lem.Learnt
joint_key_determined κs a asked x y left other p q = (p ∙ sym q, refl)

pub is_joint_determined : Determines is-joint-fn.ended is_joint_lem.Asked is_joint_lem.Learnt
is_joint_determined κs a asked x y left other p q = (p ∙ sym q, refl)

pub group_of_determined : Determines group-of-fn.ended Group-of.Asked Group-of.Learnt
group_of_determined κs a asked x y left other p q = (λ i. record { 0 = (p ∙ sym q) i }, refl)

pub row_of_determined : Determines row-of-fn.ended row_of.Asked row_of.Learnt
row_of_determined κs a asked x y left other p q = (p ∙ sym q, refl)

pub col_of_determined : Determines col-of-fn.ended col-of.Asked col-of.Learnt
col_of_determined κs a asked x y left other p q = (p ∙ sym q, refl)

pub corner_of_determined : Determines corner-of-fn.ended corner-of.Asked corner-of.Learnt
corner_of_determined κs a asked x y left other p q = (p ∙ sym q, refl)

pub levels_of_determined : Determines levels-of-fn.ended levels-of.Asked levels-of.Learnt
levels_of_determined κs a asked x y left other p q = (p ∙ sym q, refl)

pub top_of_determined : Determines top-of-fn.ended top_of.Asked top_of.Learnt
top_of_determined κs a asked x y left other p q = (p ∙ sym q, refl)

pub left_of_determined : Determines left-of-fn.ended left-of.Asked left-of.Learnt
left_of_determined κs a asked x y left other p q = (p ∙ sym q, refl)
