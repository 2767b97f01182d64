use Rattle.text.proofs.Pieces.{◌⨾◌}
use Rattle.report.proofs.Tally.put.Goals as goal

pub returns : goal.returns
returns c =
    c.put_word.ensures ⨾ c.put_hex2.ensures ⨾ c.put_field.ensures ⨾ c.put_field-2.ensures ⨾ c.put_field-3.ensures ⨾ c.put_field-4.ensures
    ⨾ c.put_field-5.ensures ⨾ c.put_field-6.ensures ⨾ c.put_field-7.ensures ⨾ c.put_field-8.ensures ⨾ c.put_field-9.ensures
    ⨾ c.put_field-10.ensures ⨾ c.put_byte.ensures
