pub mod RequirementLaws
