-- The format of snapshots is lawful, so bytes are the spelling of one state at most.
use Rattle.std.proofs.Common.{◌≡◌, ℕ, ◌^◌, ◌<◌, List, [], ◌++◌, All, length, sym, ap, subst, ◌∙◌, append_assoc}
use Rattle.std.specs.List.{flat_map}
use Rattle.std.specs.FinMap.{same_entries_map}
use Rattle.linda_tuple.specs.declared.form.Form.{Form}
use Rattle.linda_codec.specs.Steps.{many_at}
use Rattle.linda_codec.specs.Formats.{Format, short_number}
use Rattle.linda_codec.specs.Lawful.{Takes, IsFormat}
use Rattle.linda_codec.proofs.TakeLaws.{bind_ok, Takes-then}
use Rattle.linda_codec.proofs.ManyLaws.{many_takes, many_again}
use Rattle.linda_codec.proofs.BoundLaws.{bounded_then, many_bounded}
use Rattle.linda_codec.proofs.FormatLaws.{short_number_is, number_is, both_is}
use Rattle.linda_book.proofs.ReplyFormatLaws.{placed_is, reply_is}
use Rattle.linda_store_state.specs.State.{State}
use Rattle.linda_journal.proofs.ApartLaws.{format_apart}
use Rattle.linda_snap.specs.Snapshot as format
use Rattle.linda_snap.specs.Snapshot.{listed, Parts, parts_of, spell_state, IsSnapshot}

pub kept_is : (form : Form) → IsFormat (format.kept form)
kept_is form = both_is short_number_is (both_is number_is (reply_is form))

pub listed_is : {A : Type 0} {f : Format A} → IsFormat f → IsFormat (listed f)
listed_is {A = A} {f = f} is = record {
  takes = λ bytes x fits e.
      let a = bind_ok (short_number.read bytes) (λ count. many_at f.read count.0 count.1) x e in
      let c = short_number_is.takes bytes a.0 fits a.1 in
      let m = many_takes f.read f.spell f.Fits is.takes a.0.0 a.0.1 x c.0.rest_fits a.2 in
      let whole : Takes bytes (short_number.spell a.0.0 ++ flat_map f.spell x.0) x.1 =
      Takes-then bytes (short_number.spell a.0.0) a.0.1 (flat_map f.spell x.0) x.1 c.0 m.0 in
      subst (λ (k : ℕ). Takes bytes (short_number.spell k ++ flat_map f.spell x.0) x.1 × ((k < 2 ^ 32) × All f.Fits x.0))
      {x = a.0.0} {y = length x.0} (sym {a = length x.0} m.1) (whole, (c.1, m.2));
  again = λ items rest fits.
      rw (
        append_assoc (short_number.spell (length items)) (flat_map f.spell items) rest,
        short_number_is.again (length items) (flat_map f.spell items ++ rest) fits.0,
      )
      (many_again f.read f.spell f.Fits is.again items rest fits.1);
  bounded = λ bytes. bounded_then (length bytes) (short_number.read bytes) (λ count. many_at f.read count.0 count.1)
      (short_number_is.bounded bytes) (λ count. many_bounded f.read is.bounded count.0 count.1);
}

pub snapshot_is : (form : Form) → IsFormat (format.snapshot form)
snapshot_is form = both_is number_is (both_is (listed_is (placed_is form)) (listed_is (kept_is form)))

same_state : (a b : State) → parts_of a ≡ parts_of b → a ≡ b
same_state a b e =
    let next : a.next ≡ b.next = ap (λ (p : Parts). p.0) e in
    let bag : a.bag ≡ b.bag = same_entries_map a.bag b.bag (ap (λ (p : Parts). p.1.0) e) in
    let book : a.book ≡ b.book = same_entries_map a.book b.book (ap (λ (p : Parts). p.1.1) e) in
    λ i. record { bag = bag i; book = book i; next = next i }

-- Bytes are a snapshot of one state at most.
pub one_snapshot : (form : Form) (bytes : List ℕ) (a b : State) → IsSnapshot form bytes a → IsSnapshot form bytes b → a ≡ b
one_snapshot form bytes a b one two =
    let same : spell_state form a ++ [] ≡ spell_state form b ++ [] = ap (λ l. l ++ []) (sym one.parts ∙ two.parts) in
    same_state a b (format_apart (snapshot_is form) (parts_of a) (parts_of b) [] [] one.fits two.fits same).0
