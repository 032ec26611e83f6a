use Rattle.desk_room.proofs.Zeros.{zeros}
use Rattle.desk_room.proofs.master.Goals as goal

pub returns : goal.returns
returns c = zeros 333744
