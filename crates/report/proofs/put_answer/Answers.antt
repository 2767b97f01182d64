use Rattle.std.proofs.Common.{arith}
use mathlib.Core.Path.{ap, sym}
use borrow.Author.Tests.{ne_eqb}
use Rattle.report.specs.Report.{answer_text}
use Rattle.text.proofs.Pieces.{puts_as}
use Rattle.report.proofs.put_answer.Goals as goal

pub returns-in-144 : goal.returns-in-144
unfolding answer_text
returns-in-144 c =
    let a = c.args in
    puts_as (ap (λ k. answer_text k a.count a.reply.now) (sym c.in-144.is)) c.put_reply.ensures

pub returns-in-145 : goal.returns-in-145
unfolding answer_text
returns-in-145 c =
    let a = c.args in
    puts_as (ap (λ k. answer_text k a.count a.reply.now) (sym c.in-145.is)) c.put_reply-in-145.ensures

pub returns-in-146 : goal.returns-in-146
unfolding answer_text
returns-in-146 c =
    let a = c.args in
    puts_as (ap (λ k. answer_text k a.count a.reply.now) (sym c.in-146.is)) c.put_reply-in-146.ensures

pub returns-in-147 : goal.returns-in-147
unfolding answer_text
returns-in-147 c =
    let a = c.args in
    puts_as (ap (λ k. answer_text k a.count a.reply.now) (sym c.in-147.is)) c.put_reply-in-147.ensures

pub returns-in-148 : goal.returns-in-148
unfolding answer_text
returns-in-148 c =
    let a = c.args in
    puts_as (ap (λ k. answer_text k a.count a.reply.now) (sym c.in-148.is)) c.put_reply-in-148.ensures

pub returns-in-149 : goal.returns-in-149
unfolding answer_text
returns-in-149 c =
    let a = c.args in
    puts_as (ap (λ k. answer_text k a.count a.reply.now) (sym c.in-149.is)) c.put_cells.ensures

pub returns-in-150 : goal.returns-in-150
unfolding answer_text
returns-in-150 c =
    let a = c.args in
    puts_as (ap (λ k. answer_text k a.count a.reply.now) (sym c.in-150.is)) c.put_sensors.ensures

pub returns-in-151 : goal.returns-in-151
unfolding answer_text
returns-in-151 c =
    let a = c.args in
    puts_as (ap (λ k. answer_text k a.count a.reply.now) (sym c.in-151.is)) c.put_balance.ensures

pub returns-in-152 : goal.returns-in-152
unfolding answer_text
returns-in-152 c =
    let a = c.args in
    puts_as (ap (λ k. answer_text k a.count a.reply.now) (sym c.in-152.is)) c.put_faults.ensures

pub returns-in_default : goal.returns-in_default
unfolding answer_text
returns-in_default c =
    simp (
      ne_eqb c.args.command 0x90 (omega arith),
      ne_eqb c.args.command 0x91 (omega arith),
      ne_eqb c.args.command 0x92 (omega arith),
      ne_eqb c.args.command 0x93 (omega arith),
      ne_eqb c.args.command 0x94 (omega arith),
      ne_eqb c.args.command 0x95 (omega arith),
      ne_eqb c.args.command 0x96 (omega arith),
      ne_eqb c.args.command 0x97 (omega arith),
      ne_eqb c.args.command 0x98 (omega arith),
    )
    c.put_refusal.ensures
