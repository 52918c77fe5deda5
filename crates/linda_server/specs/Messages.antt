-- Messages of one call.
use Rattle.std.specs.Prelude.{ℕ, List, [], ◌∷◌}
use Rattle.linda_wire.specs.declared.message.Message.{Message}
use Rattle.linda_server.specs.declared.serving.Messages.{Messages}
use Rattle.linda_server.specs.declared.serving.Messages.TheVariants.{One, Many}

-- the messages of one call
abbrev pub messages_of : Messages → List (ℕ × Message)
messages_of (One client message) = (client, message.now) ∷ []
messages_of (Many messages) = messages.now
