-- Places of connections among the loops.
use Rattle.std.specs.Prelude.{◌==◌, ◌&&◌, ◌||◌, nat_lt, nat_le, if◌then◌else◌}
use Rattle.linda_net_relays.specs.declared.loop_directory.Load.{Load}
use Rattle.linda_net_relays.specs.declared.loop_directory.TheConstants.{FEW}

-- Which of two loops the next connection goes to: the first loop as long as it has few, else the
-- one that has fewer, and of two that have as many the one that comes first.
abbrev pub lighter : Load → Load → Load
lighter least next =
    if ((least.index == 0) && nat_lt least.count FEW) || nat_le least.count next.count then least
    else next
