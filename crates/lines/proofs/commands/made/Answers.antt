use Rattle.std.proofs.Common.{ap, ◌∙◌}
use Rattle.std.specs.Option.{option_or}
use Rattle.lines.specs.Fields.{message_of}
use Rattle.lines.proofs.commands.made.Goals as goal

pub returns : goal.returns
returns c =
    let terminal = c.terminal_of.result in
    let said = c.terminal_of.ensures in
    let imsi = c.or-imsi.ensures ∙ ap (λ i. option_or c.args.fields.imsi i) c.unsent_imsi.ensures.value in
    record {
      value = (
        terminal,
        (said.classmark, said.capability, said.drx, said.radio),
        c.message_of.ensures.value ∙ ap (λ i. message_of c.args.kind (record c.args.fields { imsi = i }) terminal) imsi,
      );
    }
