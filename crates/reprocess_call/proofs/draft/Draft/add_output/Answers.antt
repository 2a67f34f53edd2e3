use Rattle.reprocess_call.proofs.Outputs.{more-outputs}
use Rattle.reprocess_call.proofs.draft.Draft.add_output.Goals as goal

pub invariant_of-self : goal.invariant_of-self
invariant_of-self c = record {
  fit = more-outputs c.args.input c.args.spec c.args.self.now.input c.args.self.now.outputs c.in-Some.outputs c.requires.input c.args.self.now.fit c.requires.fits c.in-Some.ensures;
  few_faults = c.args.self.now.few_faults;
  few_picks = c.args.self.now.few_picks;
  few_commands = c.args.self.now.few_commands;
  in_range = c.args.self.now.in_range;
}
