-- What the check needs of message T's slot.
use Rattle.end.proofs.Slots.{slot_room}
use Rattle.end.proofs.Rings.{first_short}

pub ruleset messages = (slot_room, first_short)
