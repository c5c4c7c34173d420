-- Each contract says all of the result: two results that meet it are equal, whatever the arguments. A line for each exported function, by
-- what its own contract says. Assumes nothing.
use Rattle.window.specs.Determined.{Determines}
use Rattle.window.proofs.Unique.{unique}
use Rattle.sorts.proofs.before.Reads as before
use Rattle.sorts.proofs.same_slot.Reads as same-slot
use Rattle.sorts.proofs.slots_until.Reads as slots-until
use Rattle.sorts.proofs.same_address.Reads as same_address
use Rattle.sorts.proofs.same_capability.Reads as same_capability
use Rattle.sorts.proofs.not_above.Reads as not-above
use Rattle.sorts.proofs.wide.Reads as wide
use Rattle.sorts.proofs.AddressWindowed.number.Reads as address_number
use Rattle.sorts.proofs.CapabilityWindowed.number.Reads as capability_number
use Rattle.sorts.proofs.is_past.Reads as is_past
use Rattle.sorts.proofs.disciplines.late.Reads as late
use Rattle.sorts.proofs.disciplines.value_fits.Reads as value_is_fit
use Rattle.sorts.proofs.disciplines.length_fits.Reads as length_fits
use Rattle.sorts.proofs.counts.one_more.Reads as one_more
use Rattle.sorts.proofs.counts.turned_after.Reads as turned-after

pub before_determined : Determines before.Learnt
before_determined κs args r r' end end' = unique

pub same_slot_determined : Determines same-slot.Learnt
same_slot_determined κs args r r' end end' = unique

pub slots_until_determined : Determines slots-until.Learnt
slots_until_determined κs args r r' end end' = unique

pub same_address_determined : Determines same_address.Learnt
same_address_determined κs args r r' end end' = unique

pub same_capability_determined : Determines same_capability.Learnt
same_capability_determined κs args r r' end end' = unique

pub not_above_determined : Determines not-above.Learnt
not_above_determined κs args r r' end end' = unique

pub wide_determined : Determines wide.Learnt
wide_determined κs args r r' end end' = unique

pub late_determined : Determines late.Learnt
late_determined κs args r r' end end' = unique

pub value_fits_determined : Determines value_is_fit.Learnt
value_fits_determined κs args r r' end end' = unique

pub length_fits_determined : Determines length_fits.Learnt
length_fits_determined κs args r r' end end' = unique

pub one_more_determined : Determines one_more.Learnt
one_more_determined κs args r r' end end' = unique

pub turned_after_determined : Determines turned-after.Learnt
turned_after_determined κs args r r' end end' = unique

pub address_number_determined : Determines address_number.Learnt
address_number_determined κs args r r' end end' = unique

pub capability_number_determined : Determines capability_number.Learnt
capability_number_determined κs args r r' end end' = unique

pub is_past_determined : (g : _) (laws : _) (copies : _) (windowed : _) (d : _) (clones : _) (e : _) → Determines (is_past.Learnt g laws copies windowed d clones e)
is_past_determined g laws copies windowed d clones e κs args r r' end end' = unique
