use Rattle.std.proofs.Common.{◌≡◌, Ok, Err, sym, ◌∙◌, inr, rules}
use Rattle.toml.specs.View.{table_view}
use Rattle.swim_config.specs.Configuration.{members_at, only_keys, settings_in}
use Rattle.swim_config.specs.Keys.{top_keys}
use Rattle.swim_config.proofs.Wholes.{fault_of_keys, fault_of_settings, by_members, fault_of_members, whole_of_members}
use Rattle.swim_config.proofs.reading.read_table.Goals as goal

pub returns-in_err-only_keys : goal.returns-in_err-only_keys
returns-in_err-only_keys c =
    let fault = c.in_err-only_keys.field-0.0 in
    let is : c.from_residual.result ≡ Err fault = search rules in
    let said : only_keys top_keys (table_view c.args.table.now) ≡ Err fault = search rules in
    inr (is ∙ sym (fault_of_keys (table_view c.args.table.now) fault said))

pub returns-in_err-settings : goal.returns-in_err-settings
returns-in_err-settings c =
    let fault = c.in_err-settings.field-0.0 in
    let is : c.from_residual-in_err-settings.result ≡ Err fault = search rules in
    let known : only_keys top_keys (table_view c.args.table.now) ≡ Ok tt = search rules in
    let said : settings_in (table_view c.args.table.now) ≡ Err fault = search rules in
    inr (is ∙ sym (fault_of_settings (table_view c.args.table.now) fault known said))

pub returns-in_err-members : goal.returns-in_err-members
returns-in_err-members c =
    let fault = c.in_err-members.field-0.0 in
    let is : c.from_residual-in_err-members.result ≡ Err fault = search rules in
    let known : only_keys top_keys (table_view c.args.table.now) ≡ Ok tt = search rules in
    let said : settings_in (table_view c.args.table.now) ≡ Ok c.in_ok-settings.settings = search rules in
    rw is (fault_of_members c.in_ok-settings.settings (members_at (table_view c.args.table.now)) _ c.take_members.result
    fault
    (by_members (table_view c.args.table.now) c.in_ok-settings.settings known said) c.take_members.ensures
    (c.in_err-members.was))

pub returns : goal.returns
returns c =
    let known : only_keys top_keys (table_view c.args.table.now) ≡ Ok tt = search rules in
    let said : settings_in (table_view c.args.table.now) ≡ Ok c.in_ok-settings.settings = search rules in
    rw (c.config_with.ensures, c.as_slice.ensures.value)
    (whole_of_members c.in_ok-settings.settings (members_at (table_view c.args.table.now)) _ c.take_members.result
    c.in_ok-members.members
    (by_members (table_view c.args.table.now) c.in_ok-settings.settings known said) c.take_members.ensures
    c.in_ok-members.was)
