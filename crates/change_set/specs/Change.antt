-- What a change does to the slots of an image.
use Rattle.std.specs.Prelude.{◌≡◌, ◌<◌, length, slice_get, slice_set, true, is_some, unwrap_or}
use Rattle.class_table.specs.Changing.{HasSlot, HasRoomAt, former_place, with_live, with_source, source_in}
use Rattle.class_table.specs.Slots.{Slots}
use Rattle.change_set.specs.declared.change.Change.{Change}
use Rattle.change_set.specs.declared.change.Change.TheVariants as change
use Rattle.change_set.specs.Code.{node_in, with_part}

-- the slots after a change
abbrev pub applied : Slots → Change → Slots
applied s (change.Class id rec) = record s { classes = slice_set s.classes id rec }
applied s (change.Method slot rec) = record s { methods = slice_set s.methods slot rec }
applied s (change.DoIt n doit) = record s { doits = slice_set s.doits n doit }
applied s (change.Part at path part source) = with_source (with_part s at path part) at source
applied s (change.Live what at) = with_live s what at

-- the change back, which holds what stood there before
abbrev pub inverse : Slots → Change → Change
inverse s (change.Class id rec) = change.Class id (unwrap_or (slice_get s.classes id) rec)
inverse s (change.Method slot rec) = change.Method slot (unwrap_or (slice_get s.methods slot) rec)
inverse s (change.DoIt n doit) = change.DoIt n (unwrap_or (slice_get s.doits n) doit)
inverse s (change.Part at path part source) = change.Part at path (unwrap_or (node_in s at path) part) (unwrap_or (source_in s at) source)
inverse s (change.Live what at) = change.Live what (former_place s what)

-- what the change speaks of is there: the slot or the do-it, the node of live code where a path leads, or the place in the order without the slot
abbrev pub CanApply : Slots → Change → Type 0
CanApply s (change.Class id rec) = id < length s.classes
CanApply s (change.Method slot rec) = slot < length s.methods
CanApply s (change.DoIt n doit) = n < length s.doits
CanApply s (change.Part at path part source) = is_some (node_in s at path) ≡ true
CanApply s (change.Live what at) = HasSlot s what × HasRoomAt s what at

-- a change that leads back to slots from those after another one, and leaves that one
pub record LeadsBack (s : Slots) (c : Change) (back : Change) : Type 0 where
  pub can : CanApply (applied s c) back
  pub image : applied (applied s c) back ≡ s
  pub again : inverse (applied s c) back ≡ c
