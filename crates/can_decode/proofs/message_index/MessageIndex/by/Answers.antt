use Rattle.std.proofs.Common.{rules, ◌≡◌, ◌==◌, ◌<◌, Some, None, get_or, if◌then◌else◌, ap, ◌∙◌, subst, take, length, arith}
use Rattle.std.specs.Option.{option_or}
use Rattle.can_entries.specs.Groups.{group_of}
use Rattle.can_decode.specs.Choices.{is_group}
use Rattle.can_decode.specs.declared.message_search.Choice.{Choice}
use Rattle.std.proofs.Math.Seq.{take-length}
use Rattle.can_decode.specs.inner.FirstChoices.{first_choice}
use Rattle.can_decode.specs.MessageIndexes.{AreChoices}
use Rattle.can_decode.proofs.Indexes.{more}
use Rattle.can_decode.proofs.message_index.MessageIndex.by.Goals as goal

pub loop-index-init : goal.loop-index-init
loop-index-init g c = search rules

pub loop-index-preserved : goal.loop-index-preserved
loop-index-preserved g c =
    let whole = g.L.Lookup.whole c.args.lookup.now in
    let message = c.index-messages-index.result in
    let numbers = c.loop-index.by_number.items in
    let groups = c.loop-index.by_group.items in
    let group = c.group_in-group.ensures ∙ ap (λ n. group_of n whole) c.number_of-number.ensures in
    more whole c.loop-index.index message
    (subst (λ ms. c.loop-index.index < length ms) c.messages_by-messages.ensures c.loop-index-test.true)
    (c.index-messages-index.is ∙ ap (λ ms. get_or ms c.loop-index.index message) c.messages_by-messages.ensures)
    c.messages_by-messages.result.now c.messages_by-messages.ensures c.group_in-group.result group numbers groups _ _
    c.loop-index.invariant
    (λ other. c.in_ok-add_choice.ensures other
    ∙ ap (λ n. option_or (first_choice other numbers) (if n == other then Some c.choice_of_group-choice.result else None))
    c.number_of-number.ensures
    ∙ ap (λ (choice : Choice). option_or (first_choice other numbers) (if message.head.number == other then Some choice else None))
    c.choice_of_group-choice.ensures)
    (λ other. c.in_ok-add_choice_of_group.ensures other
    ∙ ap (λ (choice : Choice). option_or (first_choice other groups) (if is_group other c.group_in-group.result then Some choice
    else None)) c.choice_of_group-choice.ensures)

pub returns : goal.returns
returns g c =
    let end : c.loop-index.index ≡ length c.messages_by-messages.result.now = omega (
      arith,
      c.loop-index-test.false,
      c.loop-index.auto.index-end,
    ) in
    let whole : take c.loop-index.index c.messages_by-messages.result.now ≡ (g.L.Lookup.whole c.args.lookup.now).messages =
    ap (λ n. take n c.messages_by-messages.result.now) end ∙ take-length c.messages_by-messages.result.now
    ∙ c.messages_by-messages.ensures in
    let are = subst (λ ms. AreChoices (g.L.Lookup.whole c.args.lookup.now) ms c.loop-index.by_number.items
    c.loop-index.by_group.items) whole c.loop-index.invariant in
    record {
      of_numbers = λ number. c.in_ok-exact.ensures number ∙ are.of_numbers number;
      of_groups = λ group. c.in_ok-grouped.ensures group ∙ are.of_groups group;
    }
