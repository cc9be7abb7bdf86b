use Rattle.kern_stay.proofs.RoomLeft.{room_is_left}
use Rattle.kern_stay.proofs.room.room_is_left.Goals as goal

pub returns : goal.returns
returns c = room_is_left
