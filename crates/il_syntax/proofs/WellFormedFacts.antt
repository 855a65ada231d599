-- Well-formedness of a program taken apart, fact by fact.
use Rattle.std.proofs.Common.{◌≡◌, ℕ, ◌≤◌, true, not, ◌&&◌, nat_le, List, length, sym, ◌∙◌}
use Rattle.std.specs.List.{list_all}
use Rattle.std.proofs.lemmas.Bool.{and_parts, leb-true}
use Rattle.il_syntax.specs.declared.program.Function.{Function}
use Rattle.il_syntax.specs.declared.program.Program.{Program}
use Rattle.il_syntax.specs.Name.{is_name, is_among}
use Rattle.il_syntax.specs.Statements.{heads_of_all, site_count, depth_of_all}
use Rattle.il_syntax.specs.WellFormed.{Declared, IsWellFormed, names_of, params_of, declared_by, atom_exists, distinct, is_short}
use Rattle.il_syntax.specs.Checks.{is_declarable, is_unused_name, head_fits, registers_fit, body_fits, function_fits, thread_fits, counts_fit, values_fit, globals_are_distinct, globals_fit, program_fits}
use Rattle.il_syntax.proofs.Passing.{all_weaker}
use Rattle.il_syntax.proofs.Globals.{declarable_globals}
use Rattle.il_syntax.proofs.EachProgram.{globals-distinct, well_formed-program_fits}

pub record FunctionFacts (d : Declared) (f : Function) : Type 0 where
  pub few_params : f.params ≤ 8
  pub params_there : f.params ≤ length f.registers
  pub few_registers : length f.registers ≤ 64
  pub free : list_all (is_unused_name d.names) f.registers ≡ true
  pub apart : distinct f.registers ≡ true
  pub few_statements : site_count f.body.statements ≤ 4096
  pub shallow : depth_of_all f.body.statements ≤ 32
  pub statements : list_all (head_fits (length f.registers) d.na d.atomic d.params) (heads_of_all f.body.statements) ≡ true
  pub result : atom_exists (length f.registers) f.result ≡ true

pub record WellFormedFacts (p : Program) : Type 0 where
  pub few_na : length p.na ≤ 16
  pub few_atomic : length p.atomic ≤ 16
  pub few_functions : length p.functions ≤ 256
  pub few_threads : length p.threads ≤ 16
  pub some_thread : 1 ≤ length p.threads
  pub na_declarable : list_all (λ l. is_declarable l.name) p.na ≡ true
  pub atomic_declarable : list_all (λ l. is_declarable l.name) p.atomic ≡ true
  pub functions_declarable : list_all (λ f. is_declarable f.name) p.functions ≡ true
  pub apart : distinct (names_of p) ≡ true
  pub na_values : values_fit p.na ≡ true
  pub atomic_values : values_fit p.atomic ≡ true
  pub functions : list_all (function_fits (declared_by p)) p.functions ≡ true
  pub threads : list_all (thread_fits (params_of p)) p.threads ≡ true

pub function_facts : (d : Declared) (f : Function) → function_fits d f ≡ true → FunctionFacts d f
function_facts d f e =
    let registers = length f.registers in
    let few = nat_le (site_count f.body.statements) 4096 in
    let shallow = nat_le (depth_of_all f.body.statements) 32 in
    let statements = list_all (head_fits registers d.na d.atomic d.params) (heads_of_all f.body.statements) in
    let result = atom_exists registers f.result in
    let a = and_parts (nat_le f.params 8) (nat_le f.params registers && (registers_fit d.names f.registers && body_fits d f)) e in
    let b = and_parts (nat_le f.params registers) (registers_fit d.names f.registers && body_fits d f) a.1 in
    let c = and_parts (registers_fit d.names f.registers) (body_fits d f) b.1 in
    let r = and_parts (nat_le registers 64) (list_all (is_unused_name d.names) f.registers && distinct f.registers) c.0 in
    let s = and_parts (list_all (is_unused_name d.names) f.registers) (distinct f.registers) r.1 in
    let g = and_parts few (shallow && (statements && result)) c.1 in
    let h = and_parts shallow (statements && result) g.1 in
    let i = and_parts statements result h.1 in
    record {
      few_params = leb-true f.params 8 a.0;
      params_there = leb-true f.params registers b.0;
      few_registers = leb-true registers 64 r.0;
      free = s.0;
      apart = s.1;
      few_statements = leb-true (site_count f.body.statements) 4096 g.0;
      shallow = leb-true (depth_of_all f.body.statements) 32 h.0;
      statements = i.0;
      result = i.1;
    }

fitting_facts : (p : Program) → program_fits p ≡ true → WellFormedFacts p
fitting_facts p e =
    let functions = list_all (function_fits (declared_by p)) p.functions in
    let threads = list_all (thread_fits (params_of p)) p.threads in
    let declarable = list_all is_declarable (names_of p) in
    let values = values_fit p.na && values_fit p.atomic in
    let na_few = nat_le (length p.na) 16 in
    let atomic_few = nat_le (length p.atomic) 16 in
    let functions_few = nat_le (length p.functions) 256 in
    let threads_few = nat_le (length p.threads) 16 in
    let some_thread = nat_le 1 (length p.threads) in
    let na_names = list_all (λ l. is_declarable l.name) p.na in
    let atomic_names = list_all (λ l. is_declarable l.name) p.atomic in
    let function_names = list_all (λ f. is_declarable f.name) p.functions in
    let a = and_parts (globals_fit p) (functions && threads) e in
    let b = and_parts functions threads a.1 in
    let c = and_parts (counts_fit p) (declarable && (globals_are_distinct p && values)) a.0 in
    let h = and_parts declarable (globals_are_distinct p && values) c.1 in
    let i = and_parts (globals_are_distinct p) values h.1 in
    let v = and_parts (values_fit p.na) (values_fit p.atomic) i.1 in
    let j = and_parts na_few (atomic_few && (functions_few && (threads_few && some_thread))) c.0 in
    let k = and_parts atomic_few (functions_few && (threads_few && some_thread)) j.1 in
    let l = and_parts functions_few (threads_few && some_thread) k.1 in
    let m = and_parts threads_few some_thread l.1 in
    let n = and_parts na_names (atomic_names && function_names) (sym (declarable_globals p) ∙ h.0) in
    let o = and_parts atomic_names function_names n.1 in
    record {
      few_na = leb-true (length p.na) 16 j.0;
      few_atomic = leb-true (length p.atomic) 16 k.0;
      few_functions = leb-true (length p.functions) 256 l.0;
      few_threads = leb-true (length p.threads) 16 m.0;
      some_thread = leb-true 1 (length p.threads) m.1;
      na_declarable = n.0;
      atomic_declarable = o.0;
      functions_declarable = o.1;
      apart = globals-distinct p i.0;
      na_values = v.0;
      atomic_values = v.1;
      functions = b.0;
      threads = b.1;
    }

pub facts_of : (p : Program) → IsWellFormed p → WellFormedFacts p
facts_of p w = fitting_facts p (well_formed-program_fits p w)

-- declarable names are names
pub declarable_names : {X : Type 0} (name : X → List ℕ) (xs : List X) → list_all (λ x. is_declarable (name x)) xs ≡ true → list_all (λ x. is_name (name x)) xs ≡ true
declarable_names name xs e = all_weaker (λ x. is_declarable (name x)) (λ x. is_name (name x)) (λ x here. (and_parts (is_name (name x)) (is_short (name x)) here).0) xs e

pub free_names : (names registers : List (List ℕ)) → list_all (is_unused_name names) registers ≡ true → list_all is_name registers ≡ true
free_names names registers e =
    all_weaker (is_unused_name names) is_name
    (λ r here. (and_parts (is_name r) (is_short r) (and_parts (is_declarable r) (not (is_among names r)) here).0).0) registers e
