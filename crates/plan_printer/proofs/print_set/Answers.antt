-- `print_set` meets its contract: it lends the printer's places.
use Rattle.plan_printer.proofs.Laws.{lent_places}
use Rattle.plan_printer.proofs.print_set.Goals as goal

pub returns : goal.returns
returns c =
    let lent = lent_places c.args.set.now c.no_places-working.result c.no_words-words.result _ _ _ c.no_places-working.ensures c.no_words-words.ensures c.print_plan.ensures.count c.print_plan.ensures.text in
    record { count = lent.0; text = lent.1 }
