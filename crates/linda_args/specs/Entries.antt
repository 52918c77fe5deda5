-- The parser's rule of an entry of a table of arguments.
use Rattle.std.specs.Prelude.{ℕ, true, false, List, Some, map}
use Rattle.clap.specs.Words.{Rule, new_rule}
use Rattle.clap.specs.declared.builder.action.ArgAction.TheVariants.{Append, Set, SetTrue}
use Rattle.linda_client.specs.declared.limits.TheConstants.{MAX_SERVERS}
use Rattle.linda_args.specs.declared.command.table.Bond.{Bond}
use Rattle.linda_args.specs.declared.command.table.Bond.TheVariants as bonds
use Rattle.linda_args.specs.declared.command.table.Entry.{Entry}
use Rattle.linda_args.specs.declared.command.table.ArgForm.{ArgForm}
use Rattle.linda_args.specs.declared.command.table.ArgForm.TheVariants as forms

-- the rule of an argument of this name in this form
abbrev pub formed : ArgForm → List ℕ → Rule → Rule
formed forms.Flag name r = record r { long = Some name; action = Some SetTrue }
formed forms.Single name r = record r { long = Some name; value_names = 1; action = Some Set }
formed forms.Repeated name r = record r { long = Some name; value_names = 1; action = Some Append }
formed forms.Word name r = record r { value_names = 1; action = Some Set }
formed forms.Words name r = record r {
  value_names = 1;
  action = Some Set;
  range = Some (record { start_inclusive = 1; end_inclusive = MAX_SERVERS });
}

-- the rule with this bond to others
abbrev pub bound : Bond → Rule → Rule
bound bonds.Optional r = r
bound bonds.Required r = record r { required = true }
bound (bonds.Unless other) r = record r { is_free = false }
bound (bonds.With other) r = record r { is_free = false }
bound (bonds.Without other) r = record r { is_free = false }

abbrev pub rule_in : Entry → Rule
rule_in e =
    bound e.bond (
    formed e.form e.name.now (record (new_rule e.name.now) { parser = Some e.parser }))

abbrev pub rules_in : List Entry → List Rule
rules_in entries = map rule_in entries
