-- Each promise determines its call.
use mathlib.Core.Path.{sym, ◌∙◌, refl}
use Rattle.promise.specs.Determines.{Determines}
use Rattle.bitmap.specs.contracts.GroupNo.root as root-fn
use Rattle.bitmap.proofs.GroupNo.root.Reads as root
use Rattle.bitmap.specs.contracts.GroupNo.numbered as numbered-fn
use Rattle.bitmap.proofs.GroupNo.numbered.Reads as numbered
use Rattle.bitmap.specs.contracts.GroupNo.number as number-fn
use Rattle.bitmap.proofs.GroupNo.number.Reads as number
use Rattle.bitmap.specs.contracts.GroupNo.after as after-fn
use Rattle.bitmap.proofs.GroupNo.after.Reads as after
use Rattle.bitmap.specs.contracts.GroupNo.bit as bit-fn
use Rattle.bitmap.proofs.GroupNo.bit.Reads as bit
use Rattle.bitmap.specs.contracts.group_at as group-at-fn
use Rattle.bitmap.proofs.group_at.Reads as group_at
use Rattle.bitmap.specs.contracts.ones_of as ones-of-fn
use Rattle.bitmap.proofs.ones_of.Reads as ones-of
use Rattle.bitmap.specs.contracts.bit_in as bit-in-fn
use Rattle.bitmap.proofs.bit_in.Reads as bit_in
use Rattle.bitmap.specs.contracts.bit_at as bit-at-fn
use Rattle.bitmap.proofs.bit_at.Reads as bit_at
use Rattle.bitmap.specs.contracts.word_at as word-at-fn
use Rattle.bitmap.proofs.word_at.Reads as word_at
use Rattle.bitmap.specs.contracts.Ranked.child_of as child-of-fn
use Rattle.bitmap.proofs.Ranked.child_of.Reads as child_of
use Rattle.bitmap.specs.contracts.Ranked.first_child as first-child-fn
use Rattle.bitmap.proofs.Ranked.first_child.Reads as first-child
use Rattle.bitmap.specs.contracts.blocks_of as blocks-of-fn
use Rattle.bitmap.proofs.blocks_of.Reads as blocks-of
use Rattle.bitmap.specs.contracts.fill_directory as fill-directory-fn
use Rattle.bitmap.proofs.fill_directory.Reads as fill-directory
use Rattle.bitmap.specs.contracts.is_directory as is-directory-fn
use Rattle.bitmap.proofs.is_directory.Reads as is-directory

pub root_determined : Determines root-fn.ended root.Asked root.Learnt
root_determined κs a asked x y left other p q = (λ i. record { 0 = (p ∙ sym q) i }, refl)

pub numbered_determined : Determines numbered-fn.ended numbered.Asked numbered.Learnt
numbered_determined κs a asked x y left other p q = (λ i. record { 0 = (p ∙ sym q) i }, refl)

pub number_determined : Determines number-fn.ended number.Asked number.Learnt
number_determined κs a asked x y left other p q = (p ∙ sym q, refl)

pub after_determined : Determines after-fn.ended after.Asked after.Learnt
after_determined κs a asked x y left other p q = (λ i. record { 0 = (p ∙ sym q) i }, refl)

pub bit_determined : Determines bit-fn.ended bit.Asked bit.Learnt
bit_determined κs a asked x y left other p q = (λ i. record { 0 = (p ∙ sym q) i }, refl)

pub group_at_determined : Determines group-at-fn.ended group_at.Asked group_at.Learnt
group_at_determined κs a asked x y left other p q = (p.0 ∙ sym q.0, refl)

pub ones_of_determined : Determines ones-of-fn.ended ones-of.Asked ones-of.Learnt
ones_of_determined κs a asked x y left other p q = (p ∙ sym q, refl)

pub bit_in_determined : Determines bit-in-fn.ended bit_in.Asked bit_in.Learnt
bit_in_determined κs a asked x y left other p q = (p ∙ sym q, refl)

pub bit_at_determined : Determines bit-at-fn.ended bit_at.Asked bit_at.Learnt
bit_at_determined κs a asked x y left other p q = (p ∙ sym q, refl)

pub word_at_determined : Determines word-at-fn.ended word_at.Asked word_at.Learnt
word_at_determined κs a asked x y left other p q = (p.0 ∙ sym q.0, refl)

pub child_of_determined : Determines child-of-fn.ended child_of.Asked child_of.Learnt
child_of_determined κs a asked x y left other p q = (λ i. record { 0 = (p.0 ∙ sym q.0) i }, refl)

pub first_child_determined : Determines first-child-fn.ended first-child.Asked first-child.Learnt
first_child_determined κs a asked x y left other p q = (λ i. record { 0 = (p.0 ∙ sym q.0) i }, refl)

pub blocks_of_determined : Determines blocks-of-fn.ended blocks-of.Asked blocks-of.Learnt
blocks_of_determined κs a asked x y left other p q = (p ∙ sym q, refl)

pub fill_directory_determined : Determines fill-directory-fn.ended fill-directory.Asked fill-directory.Learnt
fill_directory_determined κs a asked x y left other p q = (refl, λ i. (tt, ((p ∙ sym q) i, tt)))

pub is_directory_determined : Determines is-directory-fn.ended is-directory.Asked is-directory.Learnt
is_directory_determined κs a asked x y left other p q = (p ∙ sym q, refl)
