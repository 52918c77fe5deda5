use Rattle.std.proofs.Common.{None, ◌++◌, refl, ap, ◌∙◌, length, length-append, arith}
use Rattle.linda_codec.specs.Formats.{short_number}
use Rattle.linda_snap.proofs.ClientsLaws.{counted}
use Rattle.linda_snap.proofs.clients.Clients.begin.Goals as goal

pub returns-clause-owes : goal.returns-clause-owes
returns-clause-owes c begun bytes has same is =
    c.in_ok-push_next.ensures.owes begun bytes
    (counted begun record { book = c.args.book; last = None } bytes c.extend_from_slice.new.self.items has same refl
    (c.in_ok-extend_from_slice.ensures.items
    ∙ ap (λ l. l ++ c.to_be_bytes.result) c.new-bytes.ensures.items
    ∙ c.to_be_bytes.ensures
    ∙ ap short_number.spell is))

pub push_next-requires : goal.push_next-requires
push_next-requires c =
    omega (
      arith,
      ap length c.in_ok-extend_from_slice.ensures.items,
      length-append c.new-bytes.result.items c.to_be_bytes.result,
      ap length c.new-bytes.ensures.items,
      ap length c.to_be_bytes.ensures,
    )
