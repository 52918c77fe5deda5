use Rattle.std.proofs.Common.{◌≡◌, ◌++◌, take}
use Rattle.std.specs.List.{flat_map}
use Rattle.linda_pipe.specs.Piping.{reply_line}
use Rattle.linda_pipe.proofs.reply_line.push_each.Given as goal

-- the replies so far are spelled
abbrev pub invariant-loop-reply : goal.invariant-loop-reply
invariant-loop-reply l = l.lines.items ≡ l.initial.lines.items ++ flat_map reply_line (take l.reply-index l.replies)
