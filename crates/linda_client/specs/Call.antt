-- The call that a value represents.
use Rattle.linda_event.specs.Trees.{tree_of}
use Rattle.linda_client.specs.React as calls
use Rattle.linda_client.specs.declared.call.Call.{Call}
use Rattle.linda_client.specs.declared.call.Call.TheVariants as given

abbrev pub call_of : Call → calls.Call
call_of (given.Out row) = calls.Out row
call_of (given.Sync event) = calls.Sync (tree_of event)
call_of (given.Receive server reply) = calls.Receive server reply
call_of (given.Tick now) = calls.Tick now
call_of given.Resend = calls.Resend
call_of (given.Reconnected server) = calls.Reconnected server
call_of given.Abandon = calls.Abandon
call_of given.Leave = calls.Leave
