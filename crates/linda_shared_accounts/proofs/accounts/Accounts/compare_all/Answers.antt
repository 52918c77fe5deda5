-- What differs is the client's own, and what was looked at agrees.
use Rattle.std.proofs.Common.{◌≡◌, All, Contains, sym, ap, subst, ◌∙◌, arith, slice_index_or}
use Rattle.std.proofs.lemmas.List.{take_all}
use Rattle.std.proofs.lemmas.List.Elements.{All-contains, All-more}
use Rattle.std.specs.FinMap as map
use Rattle.linda_shared_accounts.specs.declared.fault.SharedFault.TheVariants as faults
use Rattle.linda_shared_accounts.specs.declared.receipt.Receipt.{Receipt}
use Rattle.linda_shared_accounts.specs.Receipts.{client_in, number_in}
use Rattle.linda_shared_accounts.specs.Agreement.{HasRival}
use Rattle.linda_shared_accounts.specs.Accounts.{Places, receipts_at}
use Rattle.linda_shared_accounts.specs.Compare.{IsToldSo, ring_for}
use Rattle.linda_shared_accounts.proofs.accounts.Accounts.compare_all.Goals as goal

pub returns-then-not-agrees-clause-fault : goal.returns-then-not-agrees-clause-fault
returns-then-not-agrees-clause-fault g c =
    let ps : Places = c.args.self.now.places in
    let q : Receipt = c.receipt-item.result in
    let rival : HasRival (ring_for ps q) q = c.agrees.ensures.differs c.if-not-agrees.true in
    let mine : Receipt = rival.mine in
    let its : client_in mine ≡ client_in q = All-contains (λ (r : Receipt). client_in r ≡ client_in q) (ring_for ps q) mine c.agrees.ensures.own rival.there in
    record {
      mine = mine;
      told = subst (λ k. Contains (receipts_at (map.get ps k)) mine) (sym its) rival.there;
      named = c.fault_of.ensures ∙ (ap (λ k. faults.Receipt k (number_in q)) (sym its) ∙ ap (faults.Receipt (client_in mine)) (sym rival.number));
      other = q;
      stored = (c.loop-receipt.receipt-index, c.loop-receipt-test.true, sym c.receipt-item.is);
      its = sym its;
      number = sym rival.number;
      differs = λ same. rival.differs (sym same);
    }

pub loop-receipt-preserved : goal.loop-receipt-preserved
loop-receipt-preserved g c =
    let ps : Places = c.args.self.now.places in
    let q : Receipt = c.receipt-item.result in
    let one : IsToldSo ps (slice_index_or c.args.receipts.now c.loop-receipt.receipt-index q) =
    subst (IsToldSo ps) c.receipt-item.is (c.agrees.ensures.agrees c.if-not-agrees.false) in
    All-more (IsToldSo ps) c.args.receipts.now c.loop-receipt.receipt-index q c.loop-receipt-test.true c.loop-receipt.invariant one

pub returns-clause-told : goal.returns-clause-told
returns-clause-told g c =
    let end = c.loop-receipt-test.false in
    subst (All (IsToldSo c.args.self.now.places)) (take_all c.loop-receipt.receipt-index c.args.receipts.now (omega (arith, end))) c.loop-receipt.invariant
