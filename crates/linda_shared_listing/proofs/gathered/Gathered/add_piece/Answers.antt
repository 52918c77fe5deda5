use Rattle.linda_shared_listing.proofs.GatheredLaws.{page_joined}
use Rattle.linda_shared_listing.proofs.gathered.Gathered.add_piece.Goals as goal

pub returns-in_default-clause-gathers : goal.returns-in_default-clause-gathers
returns-in_default-clause-gathers c from bags bag holds far page =
    page_joined c.args.self.now.query from bags bag holds c.args.self.now.rows.items c.append.new.self.items c.args.piece c.in_ok-append.ensures.items far page

pub returns-clause-gathers : goal.returns-clause-gathers
returns-clause-gathers c from bags bag holds far page =
    page_joined c.args.self.now.query from bags bag holds c.args.self.now.rows.items c.append.new.self.items c.args.piece c.in_ok-append.ensures.items far page
