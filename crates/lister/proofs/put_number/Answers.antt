use Rattle.page_text.specs.Numerals.{decimal}
use Rattle.page_text.proofs.PutLaws.{put_more}
use Rattle.lister.proofs.put_number.Goals as goal

pub returns : goal.returns
returns c =
    let a = c.args in
    put_more a.out.now c.put_bytes-behind.new.out c.put_decimal.new.out a.word.now (decimal a.n) a.at
    c.put_bytes-behind.result c.put_decimal.result c.put_bytes-behind.ensures c.put_decimal.ensures
