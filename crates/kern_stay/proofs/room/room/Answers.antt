use Rattle.kern_stay.proofs.RoomGiven.{gives_room}
use Rattle.kern_stay.proofs.room.room.Goals as goal

pub returns-clause-serves : goal.returns-clause-serves
returns-clause-serves c = gives_room
