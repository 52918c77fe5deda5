-- Codes of messages and replies, for a model's value that holds them.
use Rattle.std.specs.Prelude.{◌≡◌, ℕ, Bool, ◌⊎◌, refl}
use Rattle.std.specs.Coded.{Coded, code_by, coded×, coded⊎, coded_ℕ, coded_bool}
use Rattle.std.proofs.Common.{inl, inr}
use Rattle.linda_tuple.specs.Tuple.{Tuple}
use Rattle.linda_tuple.specs.Template.{Template}
use Rattle.linda_tuple.specs.Codes.{tuple_code, template_code}
use Rattle.linda_wire.specs.declared.message.Message.{Message}
use Rattle.linda_wire.specs.declared.message.Message.TheVariants as messages
use Rattle.linda_wire.specs.declared.reply.Reply.{Reply}
use Rattle.linda_wire.specs.declared.reply.Reply.TheVariants as replies

-- two numbers, and a number and a tuple
abbrev pub pair_code : Coded (ℕ × ℕ)
pair_code = coded× coded_ℕ coded_ℕ

abbrev pub row_code : Coded (ℕ × Tuple)
row_code = coded× coded_ℕ tuple_code

abbrev pub MessageParts : Type 0
MessageParts =
    (ℕ × (ℕ × Bool)) ⊎ ((ℕ × Tuple) ⊎ ((ℕ × (Bool × Template)) ⊎ ((ℕ × (ℕ × ℕ)) ⊎ (ℕ ⊎ ℕ))))

abbrev pub message_parts : Message → MessageParts
message_parts (messages.Hello version client fresh) = inl (version, (client, fresh))
message_parts (messages.Out n row) = inr (inl (n, row))
message_parts (messages.Ask ticket remove template) = inr (inr (inl (ticket, (remove, template))))
message_parts (messages.Accept n ticket id) = inr (inr (inr (inl (n, (ticket, id)))))
message_parts (messages.Cancel ticket) = inr (inr (inr (inr (inl ticket))))
message_parts (messages.Leave n) = inr (inr (inr (inr (inr n))))

abbrev pub message_of_parts : MessageParts → Message
message_of_parts (inl p) = messages.Hello p.0 p.1.0 p.1.1
message_of_parts (inr (inl p)) = messages.Out p.0 p.1
message_of_parts (inr (inr (inl p))) = messages.Ask p.0 p.1.0 p.1.1
message_of_parts (inr (inr (inr (inl p)))) = messages.Accept p.0 p.1.0 p.1.1
message_of_parts (inr (inr (inr (inr (inl ticket))))) = messages.Cancel ticket
message_of_parts (inr (inr (inr (inr (inr n))))) = messages.Leave n

abbrev pub message_again : (m : Message) → message_of_parts (message_parts m) ≡ m
message_again (messages.Hello version client fresh) = refl
message_again (messages.Out n row) = refl
message_again (messages.Ask ticket remove template) = refl
message_again (messages.Accept n ticket id) = refl
message_again (messages.Cancel ticket) = refl
message_again (messages.Leave n) = refl

-- the code of a message
abbrev pub message_code : Coded Message
message_code = code_by MessageParts
    (coded⊎ (coded× coded_ℕ (coded× coded_ℕ coded_bool)) (coded⊎ row_code
    (coded⊎ (coded× coded_ℕ (coded× coded_bool template_code))
    (coded⊎ (coded× coded_ℕ pair_code) (coded⊎ coded_ℕ coded_ℕ)))))
    message_parts message_of_parts message_again

abbrev pub ReplyParts : Type 0
ReplyParts =
    ℕ ⊎ ((ℕ × ℕ) ⊎ ((ℕ × (ℕ × Tuple))
    ⊎ ((ℕ × (ℕ × Tuple)) ⊎ ((ℕ × (ℕ × Tuple)) ⊎ (ℕ ⊎ ((ℕ × ℕ) ⊎ ℕ))))))

abbrev pub reply_parts : Reply → ReplyParts
reply_parts (replies.Welcome last) = inl last
reply_parts (replies.Stored n id) = inr (inl (n, id))
reply_parts (replies.Offer ticket id row) = inr (inr (inl (ticket, (id, row))))
reply_parts (replies.Read ticket id row) = inr (inr (inr (inl (ticket, (id, row)))))
reply_parts (replies.Taken n id row) = inr (inr (inr (inr (inl (n, (id, row))))))
reply_parts (replies.Gone n) = inr (inr (inr (inr (inr (inl n)))))
reply_parts (replies.Refused code detail) = inr (inr (inr (inr (inr (inr (inl (code, detail)))))))
reply_parts (replies.Left n) = inr (inr (inr (inr (inr (inr (inr n))))))

abbrev pub reply_of_parts : ReplyParts → Reply
reply_of_parts (inl last) = replies.Welcome last
reply_of_parts (inr (inl p)) = replies.Stored p.0 p.1
reply_of_parts (inr (inr (inl p))) = replies.Offer p.0 p.1.0 p.1.1
reply_of_parts (inr (inr (inr (inl p)))) = replies.Read p.0 p.1.0 p.1.1
reply_of_parts (inr (inr (inr (inr (inl p))))) = replies.Taken p.0 p.1.0 p.1.1
reply_of_parts (inr (inr (inr (inr (inr (inl n)))))) = replies.Gone n
reply_of_parts (inr (inr (inr (inr (inr (inr (inl p))))))) = replies.Refused p.0 p.1
reply_of_parts (inr (inr (inr (inr (inr (inr (inr n))))))) = replies.Left n

abbrev pub reply_again : (r : Reply) → reply_of_parts (reply_parts r) ≡ r
reply_again (replies.Welcome last) = refl
reply_again (replies.Stored n id) = refl
reply_again (replies.Offer ticket id row) = refl
reply_again (replies.Read ticket id row) = refl
reply_again (replies.Taken n id row) = refl
reply_again (replies.Gone n) = refl
reply_again (replies.Refused code detail) = refl
reply_again (replies.Left n) = refl

-- the code of a reply
abbrev pub reply_code : Coded Reply
reply_code = code_by ReplyParts
    (coded⊎ coded_ℕ (coded⊎ pair_code
    (coded⊎ (coded× coded_ℕ row_code)
    (coded⊎ (coded× coded_ℕ row_code)
    (coded⊎ (coded× coded_ℕ row_code) (coded⊎ coded_ℕ (coded⊎ pair_code coded_ℕ)))))))
    reply_parts reply_of_parts reply_again
