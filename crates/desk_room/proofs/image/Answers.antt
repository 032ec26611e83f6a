use Rattle.desk_room.proofs.Zeros.{zeros}
use Rattle.desk_room.proofs.image.Goals as goal

pub returns : goal.returns
returns c = zeros 1048577
