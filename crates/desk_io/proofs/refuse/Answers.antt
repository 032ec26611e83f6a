use Rattle.std.proofs.Common.{◌≡◌, ℕ, ◌<◌, List, take, OnOk, OnErr, subst, ◌∙◌, arith}
use Rattle.std.specs.Io.KnownBytes.{Appends}
use Rattle.base.specs.Answers.{number_of}
use Rattle.base.specs.declared.Refusal.{Refusal}
use Rattle.base.specs.declared.Refusal.TheVariants.{RingEmpty, RingTooLong, WrongImage, WrongEntries, NoDirectory, WrongLink}
use Rattle.base.specs.declared.Refusal.TheVariants.{NoRoom, NoRing, WrongSum, NoRecord, Ambiguous, IllegalSymbol}
use Rattle.page.specs.Page.{writes}
use Rattle.page.proofs.PageLaws.{printed}
use Rattle.page_lines.specs.Answers.{refused_line}
use Rattle.page_lines.proofs.Lengths.{refused-fits}
use Rattle.desk_io.proofs.refuse.Goals as goal

small : (why : Refusal) → number_of why < 256
small RingEmpty = omega arith
small RingTooLong = omega arith
small WrongImage = omega arith
small WrongEntries = omega arith
small NoDirectory = omega arith
small WrongLink = omega arith
small NoRoom = omega arith
small NoRing = omega arith
small WrongSum = omega arith
small NoRecord = omega arith
small Ambiguous = omega arith
small IllegalSymbol = omega arith

pub returns : goal.returns
returns g c =
    let put : c.refused_line.new.page ≡ writes c.new-page.result (refused_line (number_of c.args.why)) = rw c.number.ensures at c.refused_line.ensures in
    let text = printed (refused_line (number_of c.args.why)) _ _ (refused-fits (number_of c.args.why) (small c.args.why)) (rw c.new-page.ensures at put) in
    let line = c.written.ensures ∙ text in
    let told : List ℕ → Type 0 = Appends (g.W.Write.contents c.args.err.now) (g.W.Write.contents c.put_all.new.out) in
    record {
      done = subst (λ l. OnOk c.put_all.result (told l)) line c.put_all.ensures.all;
      part = subst (λ l. OnErr c.put_all.result ((k : ℕ) × told (take k l))) line c.put_all.ensures.part;
    }
