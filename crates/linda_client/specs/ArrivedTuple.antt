-- An arrival as the program passes it on.
use Rattle.linda_client.specs.declared.arrived_tuple.ArrivedTuple.{ArrivedTuple}
use Rattle.linda_client.specs.declared.arrived_tuple.ArrivedTupleRef.{ArrivedTupleRef}

-- the arrival that a reply reports
abbrev pub arrival_of : ArrivedTupleRef → ArrivedTuple
arrival_of a = record { server = a.server; ticket = a.ticket; id = a.id; tuple = a.tuple.now }
