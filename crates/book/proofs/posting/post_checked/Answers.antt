-- A record that is counted has its cell inside the book, and what entering it there comes to is what the post comes to.
use Rattle.std.proofs.Common.{◌≡◌, ℕ, List, refl, sym, ap, ◌∙◌, length, arith}
use Rattle.std.specs.Prelude.{Ok}
use Rattle.wire.proofs.Choose.{passed}
use Rattle.filing.specs.Causes.{record_causes}
use Rattle.filing.specs.Filing.{filed_meaning, filing_of}
use Rattle.filing.specs.declared.Filed.{Filed}
use Rattle.filing.specs.declared.Filed.TheVariants as filed
use Rattle.lookup.specs.declared.Layout.{Layout}
use Rattle.filing.proofs.Told.{Located, located}
use Rattle.book.specs.Book.{index, cell_at, check_book}
use Rattle.book.specs.Post.{index_of, taking, EnterIs, PostIs}
use Rattle.book.specs.declared.posting.Effect.{Effect}
use Rattle.book.specs.declared.posting.Effect.TheVariants as effect
use Rattle.cell.specs.Entry.{cell_causes}
use Rattle.refusals.specs.Outcome.{Outcome, good, asked}
use Rattle.book.proofs.Checked.{sized}
use Rattle.book.proofs.Taken.{Admitted, admitted, admitted_inside}
use Rattle.book.proofs.posting.post_checked.Goals as goal

-- a counted record has a firm and a group, and passed 11 to 17, 31 and 33
module _ (S : List ℕ) (l : Layout) (R : List ℕ) {t : Filed} {f g : ℕ} (known : filed_meaning (Ok t) ≡ filing_of S l R) (at : t ≡ filed.At f g) where
  placed : Located S l R (record_causes S l R) f g
  placed = located _ _ _ _ (sym (ap (λ x. filed_meaning (Ok x)) at) ∙ known)

  passes : Admitted S l R
  passes = admitted _ _ _ (passed _ refl placed.none)

-- equal places are of one cell
index_same : (G : ℕ) {f f' g g' d d' : ℕ} → f ≡ f' → g ≡ g' → d ≡ d' → index G f g d ≡ index G f' g' d'
index_same G p q r = rw (p, q, r) refl

pub enter-requires : goal.enter-requires
enter-requires c =
    let known = sym (ap filed_meaning c.in_ok-file.was) ∙ c.file.ensures in
    let here = placed _ _ _ known c.in-At.is in
    let p = passes _ _ _ known c.in-At.is in
    rw (c.cell_index-at.ensures ∙ index_same _ here.firm here.group c.byte_at.ensures)
    (omega (arith, admitted_inside _ _ _ p, (sized _ _ c.requires).room))

-- what entering the record into its cell came to is what the post comes to
goes_in : (S B R : List ℕ) {l : Layout} {f g i : ℕ} {r : Outcome Effect} {B' : List ℕ}
    → check_book S (length B) ≡ good l → Located S l R (record_causes S l R) f g → i ≡ index_of S l R → EnterIs B i R r B' → PostIs S B R r B'
unfolding taking
goes_in S B R {l} e h p a =
    let c = cell_at B (index_of S l R) in
    let q : taking S l c R ≡ asked (cell_causes c R) (good effect.Counted) = rw (h.none, h.counted) refl in
    record { answer = rw (e, q) (rw p at a.answer); book = rw (e, q) (rw p at a.book) }

pub returns-in-At : goal.returns-in-At
returns-in-At c =
    let known = sym (ap filed_meaning c.in_ok-file.was) ∙ c.file.ensures in
    let here = placed _ _ _ known c.in-At.is in
    goes_in _ _ _ c.requires here (c.cell_index-at.ensures ∙ index_same _ here.firm here.group c.byte_at.ensures) c.enter.ensures
