use Rattle.desk_room.proofs.Zeros.{zeros}
use Rattle.desk_room.proofs.disk.Goals as goal

pub returns : goal.returns
returns c = zeros 212992
