use Rattle.std.proofs.Common.{sym, refl, ◌∙◌}
use Rattle.reader.proofs.Judge.{due_command, due_echo, due_one, due_number, due_place}
use Rattle.reader.proofs.asked.Asked.judge.Goals as goal

pub returns-then-frame-self : goal.returns-then-frame-self
returns-then-frame-self c = (due_command _ _ _ c.requires.1 c.if-frame-self.true, refl)

pub returns-then-is_echo : goal.returns-then-is_echo
returns-then-is_echo c = (due_echo _ _ _ c.requires.1 c.if-frame-self.false (sym c.is_echo.ensures ∙ c.if-is_echo.true), refl)

pub returns-then-self-le1 : goal.returns-then-self-le1
returns-then-self-le1 c = (due_one _ _ _ c.requires.1 c.if-frame-self.false (sym c.is_echo.ensures ∙ c.if-is_echo.false) c.if-self-le1.true, tt)

pub returns-then-frame-staying : goal.returns-then-frame-staying
returns-then-frame-staying c = (
  due_number _ _ _ c.requires.1 c.if-frame-self.false (sym c.is_echo.ensures ∙ c.if-is_echo.false) c.staying.result c.staying.ensures c.if-self-le1.false c.if-frame-staying.true,
  refl,
)

pub returns : goal.returns
returns c =
    (due_place _ _ _ c.requires.1 c.if-frame-self.false (sym c.is_echo.ensures ∙ c.if-is_echo.false) c.staying.result c.staying.ensures c.if-self-le1.false c.if-frame-staying.false, tt)
